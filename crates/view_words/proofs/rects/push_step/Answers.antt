use Rattle.std.proofs.Common.{ℕ, List, [], ◌∷◌, ◌++◌, ◌∙◌, ap, rules, FitsSigned, w64}
use Rattle.std.proofs.lemmas.Int.{to_z-of_z}
use Rattle.view_words.specs.Numbers.{pair_text}
use Rattle.view_words.proofs.Joins.{spaced}
use Rattle.view_words.proofs.rects.push_step.Goals as goal

pub returns : goal.returns
returns c =
    let x : FitsSigned w64 c.args.step.dx = search rules in
    let y : FitsSigned w64 c.args.step.dy = search rules in
    let w : FitsSigned w64 c.args.step.width = search rules in
    let h : FitsSigned w64 c.args.step.height = search rules in
    let p = pair_text c.args.step.dx c.args.step.dy in
    let q = pair_text c.args.step.width c.args.step.height in
    let first = simp to_z-of_z at c.in_ok-push_pair.ensures in
    let second = simp to_z-of_z at c.in_ok-push_pair-2.ensures in
    second
    ∙ ap (λ (o : List ℕ). o ++ q) (c.in_ok-push.ensures.items ∙ ap (λ (o : List ℕ). o ++ 0x20 ∷ []) first)
    ∙ spaced c.args.out.now.items p q
