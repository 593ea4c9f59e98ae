use Rattle.std.proofs.Common.{◌≡◌, ◌∙◌, ◌++◌, ◌∷◌, [], List, int_lt, ◌+ℤ◌, ◌-ℤ◌, true, false, arith, ap, sym}
use Rattle.base_laws.proofs.Tests.{if_true, if_false, lt_to}
use Rattle.std.proofs.lemmas.Int.{ints}
use Rattle.std.proofs.lemmas.List.{append-nil}
use Rattle.geo_base.specs.declared.shapes.Rect.{Rect}
use Rattle.rect_sets.proofs.Dividing.{lt_false}
use Rattle.rect_sets.proofs.Moving.{same_rect}
use Rattle.sized_layers.specs.Sizes.{sized_rect}
use Rattle.sized_layers.proofs.sizes.push_sized.Goals as goal

pub returns-in_ok-push : goal.returns-in_ok-push
returns-in_ok-push c =
    let r = c.args.rect.now in
    let d = c.args.d in
    let t : int_lt (r.x1 -ℤ d) (r.x2 +ℤ d) ≡ true = lt_to (r.x1 -ℤ d) (r.x2 +ℤ d) (omega (arith, ints)) in
    c.in_ok-push.ensures.items
    ∙ ap (λ (e : Rect). c.args.out.now.items ++ e ∷ []) (same_rect _ (sized_rect d r) (omega (arith, ints)) (omega (arith, ints)) (omega (arith, ints)) (omega (arith, ints)))
    ∙ ap (λ (q : List Rect). c.args.out.now.items ++ q) (sym (if_true (int_lt (r.x1 -ℤ d) (r.x2 +ℤ d)) (sized_rect d r ∷ []) [] t))

pub returns-else-x1-x2 : goal.returns-else-x1-x2
returns-else-x1-x2 c =
    let r = c.args.rect.now in
    let d = c.args.d in
    let f : int_lt (r.x1 -ℤ d) (r.x2 +ℤ d) ≡ false = lt_false (r.x1 -ℤ d) (r.x2 +ℤ d) (omega (arith, ints)) in
    sym (ap (λ (q : List Rect). c.args.out.now.items ++ q) (if_false (int_lt (r.x1 -ℤ d) (r.x2 +ℤ d)) (sized_rect d r ∷ []) [] f) ∙ append-nil c.args.out.now.items)
