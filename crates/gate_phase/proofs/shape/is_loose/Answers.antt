use Rattle.std.proofs.Common.{◌≡◌, ◌∙◌, ℕ, List, Some, true, false, refl, ap, sym, subst, arith, length, slice_get}
use Rattle.std.proofs.Math.Decide.{ℕ_discrete}
use Rattle.std.proofs.lemmas.Option.{slice_get-get_or, slice_get_within}
use Rattle.std.specs.List.{position_or_len}
use Rattle.std.specs.Str.{bytes_eq}
use Rattle.rule_layers.specs.Meaning.{globals_of}
use Rattle.rule_text.specs.Seen.{rules_seen}
use Rattle.gate_phase.proofs.Grounding.{has_ground, no_ground}
use Rattle.gate_phase.proofs.shape.is_loose.Goals as goal

abbrev number : List (List ℕ) → ℕ × List ℕ → ℕ
number names g = position_or_len (bytes_eq g.1) names

pub returns-then-grounded-conductor : goal.returns-then-grounded-conductor
returns-then-grounded-conductor c =
    let items = c.deref-grounded-items.result.now in let i = c.loop-grounded.grounded-index in let g = c.loop-grounded-item.result in
    let at : slice_get items i ≡ Some g = slice_get-get_or items i g c.loop-grounded-test.true ∙ ap Some (sym c.loop-grounded-item.is) in
    let there = subst (λ (l : List (ℕ × List ℕ)). slice_get l i ≡ Some g) c.deref-grounded-items.ensures.value at in (
      (λ e. absurd (let f : false ≡ true = e in let z : ⊥ = cc in z)),
      (λ none. absurd (has_ground c.args.conductor (number (globals_of (rules_seen c.args.rules.now))) c.args.rules.now.globals.items i g there c.if-grounded-conductor.true none)),
    )

pub loop-grounded-preserved : goal.loop-grounded-preserved
loop-grounded-preserved c = λ k x lt there e.
    let items = c.deref-grounded-items.result.now in let i = c.loop-grounded.grounded-index in let g = c.loop-grounded-item.result in
    elim (ℕ_discrete k i) [
      | yes same ↦
          let at : slice_get items i ≡ Some g = slice_get-get_or items i g c.loop-grounded-test.true ∙ ap Some (sym c.loop-grounded-item.is) in
          let here = subst (λ (l : List (ℕ × List ℕ)). slice_get l i ≡ Some g) c.deref-grounded-items.ensures.value at in
          let one : x ≡ g = (let h : Some x ≡ Some g = sym (subst (λ n. slice_get c.args.rules.now.globals.items n ≡ Some x) same there) ∙ here in cc) in
          c.if-grounded-conductor.false (ap (λ (y : ℕ × List ℕ). y.0) (sym one) ∙ e)
      | no not ↦ c.loop-grounded.invariant k x (omega arith) there e
    ]

pub returns : goal.returns
returns c = (
  (λ e. no_ground c.args.conductor (number (globals_of (rules_seen c.args.rules.now))) c.args.rules.now.globals.items
      (λ k g there. let lt = slice_get_within c.args.rules.now.globals.items k g there in
      c.loop-grounded.invariant k g (let past = c.loop-grounded-test.false in let n = ap length c.deref-grounded-items.ensures.value in omega arith) there)),
  (λ none. refl),
)
