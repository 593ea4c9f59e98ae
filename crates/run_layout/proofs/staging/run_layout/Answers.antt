-- The layout with the selections, or the first cell that leaves them no room.
use Rattle.std.proofs.Common.{inl, ℕ, Option, Some, None, sym, ◌∙◌, ap, subst}
use Rattle.std.proofs.lemmas.Result.{err_from_is_err_and}
use Rattle.base_laws.proofs.Items.{item_at}
use Rattle.gds_layout.specs.declared.layout.LayoutFault.{LayoutFault}
use Rattle.layout_shapes.specs.Written.{name_of}
use Rattle.rule_text.specs.Seen.{rules_seen}
use Rattle.run_layout.specs.Far.{IsFirstOut}
use Rattle.run_layout.specs.RunLayout.{IsRunFault}
use Rattle.run_layout.proofs.Made.{far, made, only_memory}
use Rattle.run_layout.proofs.Streams.{stream_keys}
use Rattle.run_layout.proofs.staging.run_layout.Goals as goal

pub name-requires : goal.name-requires
name-requires g c = (subst (λ (o : Option ℕ). IsFirstOut c.args.layout.design c.selects_reach.result o) c.in-Some.is c.first_far.ensures).0

pub returns-in_err-name-clause-fault : goal.returns-in_err-name-clause-fault
returns-in_err-name-clause-fault g c = λ bytes top h.
    let p = err_from_is_err_and c.from_residual.result c.from_residual.ensures.1 in
    rw (p.1, p.2) (inl tt)

pub returns-in-Some-clause-fault : goal.returns-in-Some-clause-fault
returns-in-Some-clause-fault g c = λ bytes top h.
    let l = c.args.layout in let r = rules_seen c.args.rules.now in let cell = c.in-Some.cell in
    let first = subst (λ (n : ℕ). IsFirstOut l.design n (Some cell)) c.selects_reach.ensures.is (subst (λ (o : Option ℕ). IsFirstOut l.design c.selects_reach.result o) c.in-Some.is c.first_far.ensures) in
    let part = item_at l.design.cells cell first.0 in
    far bytes top r l h c.requires.way c.requires.rules cell c.in_ok-name.name first (c.in_ok-name.ensures ∙ c.name.ensures part.0 part.1 ∙ ap name_of (sym part.1))

pub staged-requires-2-clause-drawn : goal.staged-requires-2-clause-drawn
staged-requires-2-clause-drawn g c κs within = λ i p key at listed. stream_keys c.requires.read.0 c.requires.read.1 c.args.layout c.requires.read.2 i p at key listed

pub want_of_memory-requires : goal.want_of_memory-requires
want_of_memory-requires g c =
    let l = c.args.layout in let r = rules_seen c.args.rules.now in
    let near = subst (λ (n : ℕ). IsFirstOut l.design n None) c.selects_reach.ensures.is (subst (λ (o : Option ℕ). IsFirstOut l.design c.selects_reach.result o) c.in_default.is c.first_far.ensures) in
    only_memory c.hulls_with_selections.ensures c.requires.read.0 c.requires.read.1 r l c.requires.read.2 c.requires.rules c.sound.ensures near c.in-Err.fault c.in-Err.ensures.fault

pub returns-in-Err-clause-fault : goal.returns-in-Err-clause-fault
returns-in-Err-clause-fault g c = λ bytes top h.
    subst (λ (f : LayoutFault). IsRunFault bytes top (rules_seen c.args.rules.now) f) (sym c.want_of_memory.ensures) (inl tt)

pub returns-in-Ok-clause-layout : goal.returns-in-Ok-clause-layout
returns-in-Ok-clause-layout g c = λ bytes top h.
    let l = c.args.layout in let r = rules_seen c.args.rules.now in
    let near = subst (λ (n : ℕ). IsFirstOut l.design n None) c.selects_reach.ensures.is (subst (λ (o : Option ℕ). IsFirstOut l.design c.selects_reach.result o) c.in_default.is c.first_far.ensures) in
    made bytes top r l h c.requires.way c.requires.rules c.stages.ensures.turn c.staged.ensures.shows near c.in-Ok.design c.in-Ok.ensures.staged
