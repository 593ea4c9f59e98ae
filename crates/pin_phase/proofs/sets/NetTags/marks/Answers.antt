use Rattle.std.proofs.Common.{Global, List, Vec, ◌≡◌, ◌↔◌, ◌∙◌, ℕ, Bool, true, false, ap, get_or, length, map, subst, sym, take, arith}
use Rattle.std.proofs.Math.Seq.{take-length}
use Rattle.pin_phase.specs.Sets.{HasAny}
use Rattle.pin_phase.proofs.Marking.{has_some, marks_all}
use Rattle.pin_phase.proofs.sets.NetTags.marks.Goals as goal

pub returns-clause-each : goal.returns-clause-each
returns-clause-each c = λ x.
    let f : Vec (List ℕ) Global → List (List ℕ) = λ v. v.items in
    let items = c.deref-tags-items.result.now in
    let past = c.loop-tags-test.false in let end = c.loop-tags.auto.tags-index-end in
    let n : c.loop-tags.tags-index ≡ length items = omega (arith, past, end) in
    let all : c.loop-tags.marks.items ≡ map (λ (v : Vec (List ℕ) Global). has_some (f v)) items =
    c.loop-tags.invariant ∙ ap (map (λ (v : Vec (List ℕ) Global). has_some (f v))) (ap (λ k. take k items) n ∙ take-length items) in
    let self : map f items ≡ c.args.self.now = ap (map f) c.deref-tags-items.ensures.value ∙ c.self.view_is in
    subst (λ (l : List (List (List ℕ))). (get_or c.loop-tags.marks.items x false ≡ true) ↔ HasAny l x) self
    (subst (λ (m : List Bool). (get_or m x false ≡ true) ↔ HasAny (map f items) x) (sym all) (marks_all f items x))
