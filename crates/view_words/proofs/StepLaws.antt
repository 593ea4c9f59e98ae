-- Steps lead to their rectangles, by numbers that the reader takes; such numbers have own texts.
use Rattle.std.proofs.Common.{◌≡◌, ◌∙◌, ◌^◌, ◌<◌, ℤ, pos, negsuc, ◌-ℤ◌, List, [], ◌∷◌, refl, ap, arith}
use Rattle.std.specs.Int.Signed.{mag}
use Rattle.std.proofs.lemmas.Int.{ints}
use Rattle.std.proofs.lemmas.List.Elements.{All-cons, All-head, All-tail}
use Rattle.std.proofs.lemmas.Fmt.{signed_decimal_injective}
use Rattle.geo_base.specs.declared.shapes.Point.{Point}
use Rattle.geo_base.specs.declared.shapes.Rect.{Rect}
use Rattle.geo_base.proofs.Spans.{same_rect}
use Rattle.view_words.specs.Numbers.{IsReadable, IsSmall, IsSmallRect}
use Rattle.view_words.specs.Steps.{upper_right, step_to, stepped, steps, walked}
use Rattle.view_words.specs.Laws.{StepsLaw, IsReadableStep, ReadableStepsLaw, NumberLaw}

back : (p : Point) (r : Rect) → stepped p (step_to p r) ≡ r
back p r = same_rect (stepped p (step_to p r)) r (omega (arith, ints)) (omega (arith, ints)) (omega (arith, ints)) (omega (arith, ints))

pub again : StepsLaw
again p [] = refl
again p (r ∷ rects) =
    ap (λ (q : Rect). q ∷ walked (upper_right q) (steps (upper_right r) rects)) (back p r)
    ∙ ap (λ (rs : List Rect). r ∷ rs) (again (upper_right r) rects)

between : (a b : ℤ) → IsSmall a → IsSmall b → IsReadable (b -ℤ a)
between a b g h =
    let al = g.low in let ah = g.high in let bl = h.low in let bh = h.high in
    record { low = omega (arith, ints); high = omega (arith, ints) }

one : (p : Point) (r : Rect) → IsSmall p.x → IsSmall p.y → IsSmallRect r → IsReadableStep (step_to p r)
one p r x y h = record {
  dx = between p.x r.x1 x h.x1;
  dy = between p.y r.y1 y h.y1;
  width = between r.x1 r.x2 h.x1 h.x2;
  height = between r.y1 r.y2 h.y1 h.y2;
}

pub readable : ReadableStepsLaw
readable p [] x y h = λ k d lt. absurd (omega arith)
readable p (r ∷ rects) x y h =
    let small : IsSmallRect r = All-head IsSmallRect r rects h in
    All-cons IsReadableStep (step_to p r) (steps (upper_right r) rects) (one p r x y small)
    (readable (upper_right r) rects small.x2 small.y2 (All-tail IsSmallRect r rects h))

pub numbers : NumberLaw
numbers y z g h e = signed_decimal_injective y z (small y g) (small z h) e
  where
    small : (n : ℤ) → IsReadable n → mag n < 2 ^ 63
    small (pos n) f = let high = f.high in omega (arith, ints)
    small (negsuc n) f = let low = f.low in omega (arith, ints)
