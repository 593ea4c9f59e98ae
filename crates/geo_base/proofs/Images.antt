-- Each square has one image, and is one square's image.
use Rattle.std.proofs.Common.{◌≡◌, ℤ, pos, ◌+ℤ◌, ◌-ℤ◌, ap, sym, refl, subst, arith}
use Rattle.std.proofs.lemmas.Int.{ints}
use Rattle.geo_base.specs.declared.shapes.Point.{Point}
use Rattle.geo_base.specs.declared.shapes.Square.{Square}
use Rattle.geo_base.specs.declared.motion.Turn.{Turn}
use Rattle.geo_base.specs.declared.motion.Turn.TheVariants.{R0, R90, R180, R270, M0, M90, M180, M270}
use Rattle.geo_base.specs.declared.motion.Motion.{Motion}
use Rattle.geo_base.specs.Motions.{turned_x, turned_y, IsImage, moved_square}
use Rattle.geo_base.specs.Laws.{OneImageLaw, DifferentImagesLaw, OntoLaw}
use Rattle.geo_base.proofs.Turning.{same_square, turned_centre}

-- the moved square is the image
pub moved_square-IsImage : (m : Motion) (s : Square) → IsImage m s (moved_square m s)
moved_square-IsImage m s =
    let cx = ap (λ (p : Point). p.x) (turned_centre m.turn s) in let cy = ap (λ (p : Point). p.y) (turned_centre m.turn s) in
    record { x = omega (arith, ints); y = omega (arith, ints) }

-- each square has one image
pub one_image : OneImageLaw
one_image m s t = (
  (λ h.
      let g = moved_square-IsImage m s in let hx = h.x in let hy = h.y in let gx = g.x in let gy = g.y in
      same_square t (moved_square m s) (omega (arith, ints)) (omega (arith, ints))),
  (λ e. subst (λ (q : Square). IsImage m s q) (sym e) (moved_square-IsImage m s)),
)

one_x : (t : Turn) (a b c d u v : ℤ) → turned_x t a b +ℤ u ≡ turned_x t c d +ℤ u → turned_y t a b +ℤ v ≡ turned_y t c d +ℤ v → a ≡ c
one_x R0 a b c d u v e f = omega (arith, ints)
one_x R90 a b c d u v e f = omega (arith, ints)
one_x R180 a b c d u v e f = omega (arith, ints)
one_x R270 a b c d u v e f = omega (arith, ints)
one_x M0 a b c d u v e f = omega (arith, ints)
one_x M90 a b c d u v e f = omega (arith, ints)
one_x M180 a b c d u v e f = omega (arith, ints)
one_x M270 a b c d u v e f = omega (arith, ints)

one_y : (t : Turn) (a b c d u v : ℤ) → turned_x t a b +ℤ u ≡ turned_x t c d +ℤ u → turned_y t a b +ℤ v ≡ turned_y t c d +ℤ v → b ≡ d
one_y R0 a b c d u v e f = omega (arith, ints)
one_y R90 a b c d u v e f = omega (arith, ints)
one_y R180 a b c d u v e f = omega (arith, ints)
one_y R270 a b c d u v e f = omega (arith, ints)
one_y M0 a b c d u v e f = omega (arith, ints)
one_y M90 a b c d u v e f = omega (arith, ints)
one_y M180 a b c d u v e f = omega (arith, ints)
one_y M270 a b c d u v e f = omega (arith, ints)

-- different squares have different images
pub different_images : DifferentImagesLaw
different_images m s t e =
    let ex = ap (λ (q : Square). q.x) e in let ey = ap (λ (q : Square). q.y) e in
    same_square s t (one_x m.turn s.x s.y t.x t.y m.dx m.dy ex ey) (one_y m.turn s.x s.y t.x t.y m.dx m.dy ex ey)

source : (t : Turn) (x y : ℤ) → (s : Square) × (turned_x t s.x s.y ≡ x) × (turned_y t s.x s.y ≡ y)
source R0 x y = (record { x = x; y = y }, refl, refl)
source R90 x y = (record { x = y; y = pos 0 -ℤ x -ℤ pos 1 }, omega (arith, ints), refl)
source R180 x y = (record { x = pos 0 -ℤ x -ℤ pos 1; y = pos 0 -ℤ y -ℤ pos 1 }, omega (arith, ints), omega (arith, ints))
source R270 x y = (record { x = pos 0 -ℤ y -ℤ pos 1; y = x }, refl, omega (arith, ints))
source M0 x y = (record { x = x; y = pos 0 -ℤ y -ℤ pos 1 }, refl, omega (arith, ints))
source M90 x y = (record { x = y; y = x }, refl, refl)
source M180 x y = (record { x = pos 0 -ℤ x -ℤ pos 1; y = y }, omega (arith, ints), refl)
source M270 x y = (record { x = pos 0 -ℤ y -ℤ pos 1; y = pos 0 -ℤ x -ℤ pos 1 }, omega (arith, ints), omega (arith, ints))

-- each square is the image of one
pub onto : OntoLaw
onto m t =
    let h = source m.turn (t.x -ℤ m.dx) (t.y -ℤ m.dy) in
    let hx = h.1 in let hy = h.2 in
    (h.0, same_square (moved_square m h.0) t (omega (arith, ints)) (omega (arith, ints)))
