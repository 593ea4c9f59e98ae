-- A turn of a shifted point is the turned point, shifted by the turned shift.
use Rattle.std.proofs.Common.{◌≡◌, ℤ, pos, ◌+ℤ◌, ◌-ℤ◌, ap, refl, arith}
use Rattle.std.proofs.lemmas.Int.{ints}
use Rattle.geo_base.specs.declared.shapes.Point.{Point}
use Rattle.geo_base.specs.declared.shapes.Square.{Square}
use Rattle.geo_base.specs.declared.motion.Turn.{Turn}
use Rattle.geo_base.specs.declared.motion.Turn.TheVariants.{R0, R90, R180, R270, M0, M90, M180, M270}
use Rattle.geo_base.specs.declared.motion.Motion.{Motion}
use Rattle.geo_base.specs.Motions.{turned, turned_x, turned_y, moved_point, moved_square}
use Rattle.geo_base.specs.Laws.{IsMotionAfter, IsUndone}
use Rattle.geo_base.proofs.Turning.{same_point, same_square, turned_square, squares_after, squares_back}

-- a point and a shift, coordinate by coordinate
abbrev pub shifted : Point → Point → Point
shifted p d = record { x = p.x +ℤ d.x; y = p.y +ℤ d.y }

-- the shift of a motion
abbrev pub shift : Motion → Point
shift m = record { x = m.dx; y = m.dy }

shifted_x : (t : Turn) (p d : Point) → (turned t (shifted p d)).x ≡ (turned t p).x +ℤ (turned t d).x
shifted_x R0 p d = refl
shifted_x R90 p d = omega (arith, ints)
shifted_x R180 p d = omega (arith, ints)
shifted_x R270 p d = omega (arith, ints)
shifted_x M0 p d = refl
shifted_x M90 p d = omega (arith, ints)
shifted_x M180 p d = omega (arith, ints)
shifted_x M270 p d = omega (arith, ints)

shifted_y : (t : Turn) (p d : Point) → (turned t (shifted p d)).y ≡ (turned t p).y +ℤ (turned t d).y
shifted_y R0 p d = refl
shifted_y R90 p d = refl
shifted_y R180 p d = omega (arith, ints)
shifted_y R270 p d = omega (arith, ints)
shifted_y M0 p d = omega (arith, ints)
shifted_y M90 p d = refl
shifted_y M180 p d = omega (arith, ints)
shifted_y M270 p d = omega (arith, ints)

square_x : (t : Turn) (x y dx dy : ℤ) → let d : Point = record { x = dx; y = dy } in turned_x t (x +ℤ dx) (y +ℤ dy) ≡ turned_x t x y +ℤ (turned t d).x
square_x R0 x y dx dy = refl
square_x R90 x y dx dy = omega (arith, ints)
square_x R180 x y dx dy = omega (arith, ints)
square_x R270 x y dx dy = omega (arith, ints)
square_x M0 x y dx dy = refl
square_x M90 x y dx dy = omega (arith, ints)
square_x M180 x y dx dy = omega (arith, ints)
square_x M270 x y dx dy = omega (arith, ints)

square_y : (t : Turn) (x y dx dy : ℤ) → let d : Point = record { x = dx; y = dy } in turned_y t (x +ℤ dx) (y +ℤ dy) ≡ turned_y t x y +ℤ (turned t d).y
square_y R0 x y dx dy = refl
square_y R90 x y dx dy = refl
square_y R180 x y dx dy = omega (arith, ints)
square_y R270 x y dx dy = omega (arith, ints)
square_y M0 x y dx dy = omega (arith, ints)
square_y M90 x y dx dy = refl
square_y M180 x y dx dy = omega (arith, ints)
square_y M270 x y dx dy = omega (arith, ints)

-- one motion after another: the turns one after the other, and the first shift moved by the second motion
pub after : (first second both : Motion) → ((p : Point) → turned both.turn p ≡ turned second.turn (turned first.turn p))
    → shift both ≡ moved_point second (shift first) → IsMotionAfter first second both
after first second both h e =
    let ex = ap (λ (p : Point). p.x) e in let ey = ap (λ (p : Point). p.y) e in
    record {
      points = λ p.
          let hx = ap (λ (q : Point). q.x) (h p) in let hy = ap (λ (q : Point). q.y) (h p) in
          let sx = shifted_x second.turn (turned first.turn p) (shift first) in
          let sy = shifted_y second.turn (turned first.turn p) (shift first) in
          same_point (moved_point both p) (moved_point second (moved_point first p)) (omega (arith, ints)) (omega (arith, ints));
      squares = λ s.
          let q = turned_square first.turn s in
          let g = squares_after first.turn second.turn both.turn h s in
          let hx = ap (λ (r : Square). r.x) g in let hy = ap (λ (r : Square). r.y) g in
          let sx = square_x second.turn q.x q.y first.dx first.dy in
          let sy = square_y second.turn q.x q.y first.dx first.dy in
          same_square (moved_square both s) (moved_square second (moved_square first s)) (omega (arith, ints)) (omega (arith, ints));
    }

-- a motion is undone where its turn is and the second shift undoes the turned first one
pub undone : (first second : Motion) → ((p : Point) → turned second.turn (turned first.turn p) ≡ p)
    → (turned second.turn (shift first)).x +ℤ second.dx ≡ pos 0 → (turned second.turn (shift first)).y +ℤ second.dy ≡ pos 0 → IsUndone first second
undone first second h ex ey =
    record {
      points = λ p.
          let hx = ap (λ (q : Point). q.x) (h p) in let hy = ap (λ (q : Point). q.y) (h p) in
          let sx = shifted_x second.turn (turned first.turn p) (shift first) in
          let sy = shifted_y second.turn (turned first.turn p) (shift first) in
          same_point (moved_point second (moved_point first p)) p (omega (arith, ints)) (omega (arith, ints));
      squares = λ s.
          let q = turned_square first.turn s in
          let g = squares_back first.turn second.turn h s in
          let hx = ap (λ (r : Square). r.x) g in let hy = ap (λ (r : Square). r.y) g in
          let sx = square_x second.turn q.x q.y first.dx first.dy in
          let sy = square_y second.turn q.x q.y first.dx first.dy in
          same_square (moved_square second (moved_square first s)) s (omega (arith, ints)) (omega (arith, ints));
    }

-- the turned negative of a shift is the negative of the turned shift
negated_x : (t : Turn) (d e : Point) → e.x ≡ pos 0 -ℤ d.x → e.y ≡ pos 0 -ℤ d.y → (turned t e).x ≡ pos 0 -ℤ (turned t d).x
negated_x R0 d e x y = x
negated_x R90 d e x y = omega (arith, ints)
negated_x R180 d e x y = omega (arith, ints)
negated_x R270 d e x y = omega (arith, ints)
negated_x M0 d e x y = x
negated_x M90 d e x y = omega (arith, ints)
negated_x M180 d e x y = omega (arith, ints)
negated_x M270 d e x y = omega (arith, ints)

negated_y : (t : Turn) (d e : Point) → e.x ≡ pos 0 -ℤ d.x → e.y ≡ pos 0 -ℤ d.y → (turned t e).y ≡ pos 0 -ℤ (turned t d).y
negated_y R0 d e x y = y
negated_y R90 d e x y = x
negated_y R180 d e x y = omega (arith, ints)
negated_y R270 d e x y = omega (arith, ints)
negated_y M0 d e x y = omega (arith, ints)
negated_y M90 d e x y = x
negated_y M180 d e x y = omega (arith, ints)
negated_y M270 d e x y = omega (arith, ints)

-- the first motion undoes the second too
pub undone_too : (first second : Motion) → ((p : Point) → turned first.turn (turned second.turn p) ≡ p)
    → second.dx ≡ pos 0 -ℤ (turned second.turn (shift first)).x → second.dy ≡ pos 0 -ℤ (turned second.turn (shift first)).y → IsUndone second first
undone_too first second h ex ey =
    let d = turned second.turn (shift first) in
    let nx = negated_x first.turn d (shift second) ex ey in
    let ny = negated_y first.turn d (shift second) ex ey in
    let hx = ap (λ (q : Point). q.x) (h (shift first)) in let hy = ap (λ (q : Point). q.y) (h (shift first)) in
    undone second first h (omega (arith, ints)) (omega (arith, ints))
