-- A motion takes the numbers of a range to those of the range between the images of its ends.
use Rattle.std.proofs.Common.{◌≡◌, ℤ, pos, ◌+ℤ◌, ◌-ℤ◌, ◌<ℤ◌, ◌≤ℤ◌, ap, ◌∙◌, sym, refl, arith, Bool, true, false, ◌&&◌, int_lt, int_le}
use Rattle.base_laws.proofs.Tests.{lt_to, le_to}
use Rattle.std.proofs.lemmas.Int.{ints, by_lt_z}
use Rattle.std.specs.Int.{int_min, int_max}
use Rattle.geo_base.specs.declared.shapes.Square.{Square}
use Rattle.geo_base.specs.declared.shapes.Rect.{Rect}
use Rattle.geo_base.specs.declared.motion.Turn.{Turn}
use Rattle.geo_base.specs.declared.motion.Turn.TheVariants.{R0, R90, R180, R270, M0, M90, M180, M270}
use Rattle.geo_base.specs.declared.motion.Motion.{Motion}
use Rattle.geo_base.specs.Motions.{moved_square}
use Rattle.geo_base.specs.Rects.{is_between, has, IsRect, moved_rect}

pub lt_false : (a b : ℤ) → b ≤ℤ a → int_lt a b ≡ false
lt_false a b h = grind (arith, ints)

pub le_false : (a b : ℤ) → b <ℤ a → int_le a b ≡ false
le_false a b h = grind (arith, ints)

-- a shifted range
kept : (a b x p q t d : ℤ) → a <ℤ b → p ≡ a +ℤ d → q ≡ b +ℤ d → t ≡ x +ℤ d → is_between (int_min p q) t (int_max p q) ≡ is_between a x b
kept a b x p q t d h e f g = grind (arith, ints)

and_comm : (a b : Bool) → (a && b) ≡ (b && a)
and_comm true true = refl
and_comm true false = refl
and_comm false true = refl
and_comm false false = refl

-- a range turned round and shifted
faced : (a b x p q t d : ℤ) → a <ℤ b → p ≡ (pos 0 -ℤ a) +ℤ d → q ≡ (pos 0 -ℤ b) +ℤ d → t ≡ (pos 0 -ℤ x -ℤ pos 1) +ℤ d → is_between (int_min p q) t (int_max p q) ≡ is_between a x b
faced a b x p q t d h e f g =
    ap (λ (v : ℤ). is_between v t (int_max p q)) (min_is p q (omega (arith, ints))) ∙
    ap (λ (v : ℤ). is_between q t v) (max_is p q (omega (arith, ints))) ∙
    ap (λ c. c && int_lt t p) (le_is b x q t d f g) ∙
    ap (λ c. int_lt x b && c) (lt_is a x p t d e g) ∙
    and_comm (int_lt x b) (int_le a x)
  where
    min_is : (p q : ℤ) → q <ℤ p → int_min p q ≡ q
    min_is p q h = grind (arith, ints)

    max_is : (p q : ℤ) → q <ℤ p → int_max p q ≡ p
    max_is p q h = grind (arith, ints)

    le_is : (b x q t d : ℤ) → q ≡ (pos 0 -ℤ b) +ℤ d → t ≡ (pos 0 -ℤ x -ℤ pos 1) +ℤ d → int_le q t ≡ int_lt x b
    le_is b x q t d e f = by_lt_z x b
        (λ lt. le_to q t (omega (arith, ints)) ∙ sym (lt_to x b lt))
        (λ le. le_false q t (omega (arith, ints)) ∙ sym (lt_false x b le))

    lt_is : (a x p t d : ℤ) → p ≡ (pos 0 -ℤ a) +ℤ d → t ≡ (pos 0 -ℤ x -ℤ pos 1) +ℤ d → int_lt t p ≡ int_le a x
    lt_is a x p t d e f = by_lt_z x a
        (λ lt. lt_false t p (omega (arith, ints)) ∙ sym (le_false a x lt))
        (λ le. lt_to t p (omega (arith, ints)) ∙ sym (le_to a x le))

abbrev turned_twice : ℤ → ℤ
turned_twice a = pos 0 -ℤ (pos 0 -ℤ a)

kept_twice : (a b x d : ℤ) → a <ℤ b → is_between (int_min (turned_twice a +ℤ d) (turned_twice b +ℤ d)) (x +ℤ d) (int_max (turned_twice a +ℤ d) (turned_twice b +ℤ d)) ≡ is_between a x b
kept_twice a b x d h = kept a b x (turned_twice a +ℤ d) (turned_twice b +ℤ d) (x +ℤ d) d h (omega (arith, ints)) (omega (arith, ints)) refl

abbrev turned_thrice : ℤ → ℤ
turned_thrice a = pos 0 -ℤ (pos 0 -ℤ (pos 0 -ℤ a))

faced_thrice : (a b x d : ℤ) → a <ℤ b → is_between (int_min (turned_thrice a +ℤ d) (turned_thrice b +ℤ d)) ((pos 0 -ℤ x -ℤ pos 1) +ℤ d) (int_max (turned_thrice a +ℤ d) (turned_thrice b +ℤ d)) ≡ is_between a x b
faced_thrice a b x d h = faced a b x (turned_thrice a +ℤ d) (turned_thrice b +ℤ d) ((pos 0 -ℤ x -ℤ pos 1) +ℤ d) d h (omega (arith, ints)) (omega (arith, ints)) refl

-- whether the rectangle between two corners has a square, where its sides come from the sides that were given
across : (r : Rect) (s : Square) (a b : Bool) → a ≡ is_between r.x1 s.x r.x2 → b ≡ is_between r.y1 s.y r.y2 → (a && b) ≡ has r s
across r s a b e f = ap (λ c. c && b) e ∙ ap (λ c. is_between r.x1 s.x r.x2 && c) f

swapped : (r : Rect) (s : Square) (a b : Bool) → a ≡ is_between r.y1 s.y r.y2 → b ≡ is_between r.x1 s.x r.x2 → (a && b) ≡ has r s
swapped r s a b e f = and_comm a b ∙ across r s b a f e

-- the moved rectangle has the images of the squares of the rectangle, and no others
pub moved_rect-has : (m : Motion) (r : Rect) (s : Square) → IsRect r → has (moved_rect m r) (moved_square m s) ≡ has r s
moved_rect-has m r s h = turned_has m.turn m.dx m.dy r s h where
  turned_has : (t : Turn) (dx dy : ℤ) (r : Rect) (s : Square) → IsRect r → let m : Motion = record { turn = t; dx = dx; dy = dy } in has (moved_rect m r) (moved_square m s) ≡ has r s
  turned_has R0 dx dy r s h = let w = h.wide in let g = h.high in
      across r s _ _ (kept r.x1 r.x2 s.x _ _ _ dx w refl refl refl) (kept r.y1 r.y2 s.y _ _ _ dy g refl refl refl)
  turned_has R90 dx dy r s h = let w = h.wide in let g = h.high in
      swapped r s _ _ (faced r.y1 r.y2 s.y _ _ _ dx g refl refl refl) (kept r.x1 r.x2 s.x _ _ _ dy w refl refl refl)
  turned_has R180 dx dy r s h = let w = h.wide in let g = h.high in
      across r s _ _ (faced r.x1 r.x2 s.x _ _ _ dx w refl refl refl) (faced r.y1 r.y2 s.y _ _ _ dy g refl refl refl)
  turned_has R270 dx dy r s h = let w = h.wide in let g = h.high in
      swapped r s _ _ (kept_twice r.y1 r.y2 s.y dx g) (faced r.x1 r.x2 s.x _ _ _ dy w refl refl refl)
  turned_has M0 dx dy r s h = let w = h.wide in let g = h.high in
      across r s _ _ (kept r.x1 r.x2 s.x _ _ _ dx w refl refl refl) (faced r.y1 r.y2 s.y _ _ _ dy g refl refl refl)
  turned_has M90 dx dy r s h = let w = h.wide in let g = h.high in
      swapped r s _ _ (kept_twice r.y1 r.y2 s.y dx g) (kept r.x1 r.x2 s.x _ _ _ dy w refl refl refl)
  turned_has M180 dx dy r s h = let w = h.wide in let g = h.high in
      across r s _ _ (faced r.x1 r.x2 s.x _ _ _ dx w refl refl refl) (kept_twice r.y1 r.y2 s.y dy g)
  turned_has M270 dx dy r s h = let w = h.wide in let g = h.high in
      swapped r s _ _ (faced_thrice r.y1 r.y2 s.y dx g) (faced r.x1 r.x2 s.x _ _ _ dy w refl refl refl)

-- a moved rectangle has squares
pub moved_rect-IsRect : (m : Motion) (r : Rect) → IsRect r → IsRect (moved_rect m r)
moved_rect-IsRect m r h =
    let corner : Square = record { x = r.x1; y = r.y1 } in
    some_square (moved_rect m r) (moved_square m corner) (moved_rect-has m r corner h ∙ first_square r h)
  where
    some_number : (a x b : ℤ) (c : Bool) → (is_between a x b && c) ≡ true → (a <ℤ b) × (c ≡ true)
    some_number a x b c e = grind (arith, ints)

    some_square : (r : Rect) (s : Square) → has r s ≡ true → IsRect r
    some_square r s e =
        let h = some_number r.x1 s.x r.x2 (is_between r.y1 s.y r.y2) e in
        let g = some_number r.y1 s.y r.y2 true (and_comm (is_between r.y1 s.y r.y2) true ∙ h.1) in
        record { wide = h.0; high = g.0 }

    first_number : (a b : ℤ) → a <ℤ b → is_between a a b ≡ true
    first_number a b h = grind (arith, ints)

    first_square : (r : Rect) → IsRect r → let s : Square = record { x = r.x1; y = r.y1 } in has r s ≡ true
    first_square r h = ap (λ c. c && is_between r.y1 r.y1 r.y2) (first_number r.x1 r.x2 h.wide) ∙ first_number r.y1 r.y2 h.high

-- a rectangle is its four sides
pub same_rect : (r s : Rect) → r.x1 ≡ s.x1 → r.y1 ≡ s.y1 → r.x2 ≡ s.x2 → r.y2 ≡ s.y2 → r ≡ s
same_rect r s a b c d =
    ap (λ (v : ℤ). let q : Rect = record { x1 = v; y1 = r.y1; x2 = r.x2; y2 = r.y2 } in q) a ∙
    ap (λ (v : ℤ). let q : Rect = record { x1 = s.x1; y1 = v; x2 = r.x2; y2 = r.y2 } in q) b ∙
    ap (λ (v : ℤ). let q : Rect = record { x1 = s.x1; y1 = s.y1; x2 = v; y2 = r.y2 } in q) c ∙
    ap (λ (v : ℤ). let q : Rect = record { x1 = s.x1; y1 = s.y1; x2 = s.x2; y2 = v } in q) d
