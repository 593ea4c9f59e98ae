use Rattle.std.proofs.Common.{◌≡◌, ◌∙◌, ℕ, List, ap, arith, subst, sym}
use Rattle.cell_graph.specs.Linked.{IsSound, Linked, keeping}
use Rattle.flat_layout.specs.declared.way.Way.{Way}
use Rattle.flat_layout.specs.declared.way.Way.TheVariants.{Disturbed}
use Rattle.rule_layers.specs.Formulas.{greatest}
use Rattle.rule_stages.specs.Depths.{deepest}
use Rattle.rule_stages.specs.Stages.{from_depth, stages_of}
use Rattle.rule_text.specs.Seen.{rules_seen}
use Rattle.rule_text.specs.declared.rules.SelectRule.{SelectRule}
use Rattle.depth_designs.specs.Stages.{AreUnused, stages_by}
use Rattle.staged_layouts.specs.Staged.{IsStagedDesign}
use Rattle.select_flow.proofs.stages.staged.Goals as goal

pub with_depth-requires-clause-unused : goal.with_depth-requires-clause-unused
with_depth-requires-clause-unused g c κs within =
    let r = rules_seen c.args.rules.now in let m = c.loop-depth.staged in
    subst (λ (l : List SelectRule). AreUnused m (stages_by r l)) (sym (c.deref-in-loop-depth-2.ensures.value ∙ c.in_ok-selected.ensures.is))
    (c.depth_after_depth.ensures.unused r (keeping Disturbed c.args.design) m c.loop-depth.depth c.requires.drawn c.loop-depth.invariant)

pub loop-depth-preserved : goal.loop-depth-preserved
loop-depth-preserved g c =
    let r = rules_seen c.args.rules.now in let m = c.loop-depth.staged in let e = c.in_ok-staged.staged in
    c.depth_after_depth.ensures.next r (keeping Disturbed c.args.design) m e c.loop-depth.depth c.loop-depth.invariant
    (subst (λ (l : List SelectRule). IsStagedDesign (stages_by r l) m e) (c.deref-in-loop-depth-2.ensures.value ∙ c.in_ok-selected.ensures.is) c.in_ok-staged.ensures.staged)

pub returns-clause-staged : goal.returns-clause-staged
returns-clause-staged g c =
    let d = c.args.design in let r = rules_seen c.args.rules.now in let m = c.loop-depth.staged in
    let back : c.keeping-done.result ≡ keeping d.way m = c.keeping-done.ensures ∙ ap (λ (w : Way). keeping w m) c.way-way.ensures in
    let all : c.deepest-last.result ≡ deepest r = c.deepest-last.ensures ∙ ap greatest (c.deref.ensures.value ∙ c.in_ok-depths.ensures) in
    let last : c.loop-depth.depth ≡ c.deepest-last.result = omega arith in
    let done = subst (λ (n : ℕ). IsStagedDesign (stages_by r (from_depth r 1 n)) (keeping Disturbed d) m) (last ∙ all) c.loop-depth.invariant in
    subst (λ (e : Linked). IsStagedDesign (stages_of r) d e) (sym back)
    (c.depth_after_depth.ensures.way (stages_of r) d m (c.stages.ensures.turn r c.requires.rules) (subst (λ (e : Linked). IsSound e) back c.sound-2.ensures) done)
