use Rattle.std.proofs.Common.{◌≡◌, ◌-◌, ◌++◌, ℕ, [], List, Ok, Err, length, drop, take, sym, subst, ◌∙◌, ap, arith}
use Rattle.std.proofs.lemmas.Bool.{eqb-true}
use Rattle.std.proofs.lemmas.List.{take_all, length-drop}
use Rattle.std.proofs.lemmas.Result.{err_from_is_err_and}
use Rattle.gds_elements.specs.Reading.{Runs}
use Rattle.gds_elements.proofs.PieceLemmas.{no_items, going_bare, going_of, run_goes, run_faults}
use Rattle.gds_elements.proofs.pieces.Pieces.advance.Goals as goal

pub returns-in_err-at-clause-reading : goal.returns-in_err-at-clause-reading
returns-in_err-at-clause-reading c = λ fed h.
    let s = c.args.self.now in
    let none : s.held.items ≡ [] = no_items s.held.items (sym s.held.ok.0 ∙ eqb-true _ _ (sym c.is_empty.ensures ∙ c.if-is_empty.true)) in
    let g = going_bare fed s.held.items s.stream c.requires.going none h in
    let p = err_from_is_err_and c.from_residual.result c.from_residual.ensures.1 in
    rw (p.1, p.2) (run_faults fed c.args.piece.now [] s.stream c.run.new.self c.in_err-at.field-0.0 g (c.in_err-at.ensures.reading g.records g.stands))

pub returns-then-is_empty-clause-reading : goal.returns-then-is_empty-clause-reading
returns-then-is_empty-clause-reading c = λ fed h.
    let s = c.args.self.now in
    let none : s.held.items ≡ [] = no_items s.held.items (sym s.held.ok.0 ∙ eqb-true _ _ (sym c.is_empty.ensures ∙ c.if-is_empty.true)) in
    let g = going_bare fed s.held.items s.stream c.requires.going none h in
    let piece = c.args.piece.now in
    let rest : drop c.in_ok-at.at piece ≡ c.in_ok-self.field-0.items = sym (c.in_ok-self.ensures.items ∙ take_all _ _ (omega (arith, length-drop c.in_ok-at.at piece))) in
    run_goes fed piece [] c.in_ok-self.field-0.items s.stream c.run.new.self c.in_ok-at.at g (c.in_ok-at.ensures.reading g.records g.stands) rest

pub returns-in_err-at-2-clause-reading : goal.returns-in_err-at-2-clause-reading
returns-in_err-at-2-clause-reading c = λ fed h.
    let s = c.args.self.now in
    let g = going_of fed s.held.items s.stream c.requires.going h in
    let all : c.deref.result.now ≡ s.held.items ++ c.args.piece.now = c.deref.ensures.value ∙ c.in_ok-extend_from_slice.ensures.items in
    let ran = subst (λ (ws : List ℕ). Runs g.records ws (Err c.in_err-at-2.field-0.0) c.run-2.new.self) all (c.in_err-at-2.ensures.reading g.records g.stands) in
    let p = err_from_is_err_and c.from_residual-in_err-at-2.result c.from_residual-in_err-at-2.ensures.1 in
    rw (p.1, p.2) (run_faults fed c.args.piece.now s.held.items s.stream c.run-2.new.self c.in_err-at-2.field-0.0 g ran)

pub returns-in_ok-self-2-clause-reading : goal.returns-in_ok-self-2-clause-reading
returns-in_ok-self-2-clause-reading c = λ fed h.
    let s = c.args.self.now in
    let g = going_of fed s.held.items s.stream c.requires.going h in
    let bytes = s.held.items ++ c.args.piece.now in
    let at = c.in_ok-at-2.at in
    let all : c.deref.result.now ≡ bytes = c.deref.ensures.value ∙ c.in_ok-extend_from_slice.ensures.items in
    let ran = subst (λ (ws : List ℕ). Runs g.records ws (Ok at) c.run-2.new.self) all (c.in_ok-at-2.ensures.reading g.records g.stands) in
    let again : c.deref-then-at-gt0.result.now ≡ bytes = c.deref-then-at-gt0.ensures.value ∙ c.in_ok-extend_from_slice.ensures.items in
    let rest : drop at bytes ≡ c.in_ok-self-2.field-0.items =
    sym (c.in_ok-self-2.ensures.items ∙ ap (λ (ws : List ℕ). take (length ws - at) (drop at ws)) again ∙ take_all _ _ (omega (arith, length-drop at bytes))) in
    run_goes fed c.args.piece.now s.held.items c.in_ok-self-2.field-0.items s.stream c.run-2.new.self at g ran rest

pub returns-else-at-gt0-clause-reading : goal.returns-else-at-gt0-clause-reading
returns-else-at-gt0-clause-reading c = λ fed h.
    let s = c.args.self.now in
    let g = going_of fed s.held.items s.stream c.requires.going h in
    let bytes = s.held.items ++ c.args.piece.now in
    let at = c.in_ok-at-2.at in
    let whole : c.extend_from_slice.new.self.items ≡ bytes = c.in_ok-extend_from_slice.ensures.items in
    let ran = subst (λ (ws : List ℕ). Runs g.records ws (Ok at) c.run-2.new.self) (c.deref.ensures.value ∙ whole) (c.in_ok-at-2.ensures.reading g.records g.stands) in
    let none : at ≡ 0 = omega (arith, c.if-at-gt0.false) in
    let rest : drop at bytes ≡ c.extend_from_slice.new.self.items = ap (λ (n : ℕ). drop n bytes) none ∙ sym whole in
    run_goes fed c.args.piece.now s.held.items c.extend_from_slice.new.self.items s.stream c.run-2.new.self at g ran rest
