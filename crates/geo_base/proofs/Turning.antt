-- Turns of points and of unit squares.
use Rattle.std.proofs.Common.{◌≡◌, ℤ, ap, ◌∙◌, sym, refl, arith}
use Rattle.std.proofs.lemmas.Int.{ints}
use Rattle.geo_base.specs.declared.shapes.Point.{Point}
use Rattle.geo_base.specs.declared.shapes.Square.{Square}
use Rattle.geo_base.specs.declared.motion.Turn.{Turn}
use Rattle.geo_base.specs.declared.motion.Turn.TheVariants.{R0, R90, R180, R270, M0, M90, M180, M270}
use Rattle.geo_base.specs.Motions.{quarter_turned, turned, turned_x, turned_y, twice_centre}

-- a point is its two coordinates
pub same_point : (p q : Point) → p.x ≡ q.x → p.y ≡ q.y → p ≡ q
same_point p q x y = ap (λ (v : ℤ). let r : Point = record { x = v; y = p.y } in r) x ∙ ap (λ (v : ℤ). let r : Point = record { x = q.x; y = v } in r) y

-- a square is the two coordinates of its corner
pub same_square : (s t : Square) → s.x ≡ t.x → s.y ≡ t.y → s ≡ t
same_square s t x y = ap (λ (v : ℤ). let r : Square = record { x = v; y = s.y } in r) x ∙ ap (λ (v : ℤ). let r : Square = record { x = t.x; y = v } in r) y

-- squares with one centre are one
pub same_centre : (s t : Square) → twice_centre s ≡ twice_centre t → s ≡ t
same_centre s t e =
    let x = ap (λ (p : Point). p.x) e in let y = ap (λ (p : Point). p.y) e in
    same_square s t (omega (arith, ints)) (omega (arith, ints))

-- four quarters are none
pub four_quarters : (p : Point) → p ≡ quarter_turned (quarter_turned (quarter_turned (quarter_turned p)))
four_quarters p = same_point p (quarter_turned (quarter_turned (quarter_turned (quarter_turned p)))) (omega (arith, ints)) (omega (arith, ints))

-- a turn but a quarter to the left or right undoes itself
pub twice_turned : (t : Turn) → (t ≡ R90 → ⊥) → (t ≡ R270 → ⊥) → (p : Point) → turned t (turned t p) ≡ p
twice_turned R0 g h p = refl
twice_turned R90 g h p = absurd (g refl)
twice_turned R180 g h p = sym (four_quarters p)
twice_turned R270 g h p = absurd (h refl)
twice_turned M0 g h p = same_point (turned M0 (turned M0 p)) p refl (omega (arith, ints))
twice_turned M90 g h p = same_point (turned M90 (turned M90 p)) p (omega (arith, ints)) (omega (arith, ints))
twice_turned M180 g h p = same_point (turned M180 (turned M180 p)) p (omega (arith, ints)) (omega (arith, ints))
twice_turned M270 g h p = same_point (turned M270 (turned M270 p)) p (omega (arith, ints)) (omega (arith, ints))

-- the square that the turn takes a square to
abbrev pub turned_square : Turn → Square → Square
turned_square t s = record { x = turned_x t s.x s.y; y = turned_y t s.x s.y }

centre_x : (t : Turn) (s : Square) → (twice_centre (turned_square t s)).x ≡ (turned t (twice_centre s)).x
centre_x R0 s = refl
centre_x R90 s = omega (arith, ints)
centre_x R180 s = omega (arith, ints)
centre_x R270 s = omega (arith, ints)
centre_x M0 s = refl
centre_x M90 s = omega (arith, ints)
centre_x M180 s = omega (arith, ints)
centre_x M270 s = omega (arith, ints)

centre_y : (t : Turn) (s : Square) → (twice_centre (turned_square t s)).y ≡ (turned t (twice_centre s)).y
centre_y R0 s = refl
centre_y R90 s = refl
centre_y R180 s = omega (arith, ints)
centre_y R270 s = omega (arith, ints)
centre_y M0 s = omega (arith, ints)
centre_y M90 s = refl
centre_y M180 s = omega (arith, ints)
centre_y M270 s = omega (arith, ints)

-- the turn takes the centre of a square to the centre of the turned square
pub turned_centre : (t : Turn) (s : Square) → twice_centre (turned_square t s) ≡ turned t (twice_centre s)
turned_centre t s = same_point (twice_centre (turned_square t s)) (turned t (twice_centre s)) (centre_x t s) (centre_y t s)

-- turns that agree on points agree on squares
pub squares_after : (first second both : Turn) → ((p : Point) → turned both p ≡ turned second (turned first p))
    → (s : Square) → turned_square both s ≡ turned_square second (turned_square first s)
squares_after first second both h s =
    same_centre (turned_square both s) (turned_square second (turned_square first s))
    (turned_centre both s ∙ h (twice_centre s) ∙ ap (turned second) (sym (turned_centre first s)) ∙ sym (turned_centre second (turned_square first s)))

-- a turn that takes points back takes squares back
pub squares_back : (first second : Turn) → ((p : Point) → turned second (turned first p) ≡ p)
    → (s : Square) → turned_square second (turned_square first s) ≡ s
squares_back first second h s =
    same_centre (turned_square second (turned_square first s)) s
    (turned_centre second (turned_square first s) ∙ ap (turned second) (turned_centre first s) ∙ h (twice_centre s))
