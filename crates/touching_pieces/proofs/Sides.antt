-- Rectangles that touch, by their sides and by their squares.
use Rattle.std.proofs.Common.{◌≡◌, ◌⊎◌, inl, inr, ℤ, pos, ◌+ℤ◌, ◌-ℤ◌, ◌≤ℤ◌, ◌<ℤ◌, int_lt, true, ◌&&◌, refl, sym, ap, arith}
use Rattle.base_laws.proofs.Tests.{lt_from, lt_to, le_from, le_to}
use Rattle.std.proofs.lemmas.Int.{ints, clamps, by_lt_z}
use Rattle.std.specs.Int.{int_min, int_max}
use Rattle.std.proofs.lemmas.Bool.{or_cases, and_parts, and_from, or_left, or_right}
use Rattle.flat_layout.specs.Plane.{IsIn, IsNear}
use Rattle.geo_base.specs.declared.shapes.Rect.{Rect}
use Rattle.geo_base.specs.declared.shapes.Square.{Square}
use Rattle.touching_pieces.specs.Touching.{AreTouching, adjoin, is_near, touches}
use Rattle.geo_base.specs.Rects.{is_rect, overlap}

overlap_of : (a b c d : ℤ) → overlap a b c d ≡ true → (a <ℤ d) × (c <ℤ b)
overlap_of a b c d e = let h = lt_from (int_max a c) (int_min b d) e in (omega (arith, ints, clamps), omega (arith, ints, clamps))

adjoin_of : (a b c d : ℤ) → adjoin a b c d ≡ true → (a ≤ℤ d) × (c ≤ℤ b)
adjoin_of a b c d e = let h = le_from (int_max a c) (int_min b d) e in (omega (arith, ints, clamps), omega (arith, ints, clamps))

overlap_to : (a b c d : ℤ) → a <ℤ b → c <ℤ d → a <ℤ d → c <ℤ b → overlap a b c d ≡ true
overlap_to a b c d s t h g = lt_to (int_max a c) (int_min b d) (omega (arith, ints, clamps))

adjoin_to : (a b c d : ℤ) → a <ℤ b → c <ℤ d → a ≤ℤ d → c ≤ℤ b → adjoin a b c d ≡ true
adjoin_to a b c d s t h g = le_to (int_max a c) (int_min b d) (omega (arith, ints, clamps))

-- a number that two spans share
shared : (a b c d : ℤ) → a <ℤ b → c <ℤ d → a <ℤ d → c <ℤ b → (x : ℤ) × (a ≤ℤ x) × (x <ℤ b) × (c ≤ℤ x) × (x <ℤ d)
shared a b c d s t h g = by_lt_z a c (λ lt. (c, omega (arith, ints), g, omega (arith, ints), t)) (λ le. (a, omega (arith, ints), s, le, h))

-- numbers of two spans that share or meet: one, or neighbours
pub record AreSpanned (a b c d : ℤ) : Type 0 where
  pub x : ℤ
  pub y : ℤ
  pub low_x : a ≤ℤ x
  pub high_x : x <ℤ b
  pub low_y : c ≤ℤ y
  pub high_y : y <ℤ d
  pub beside : (x ≡ y) ⊎ ((x +ℤ pos 1 ≡ y) ⊎ (y +ℤ pos 1 ≡ x))

spanned : (a b c d : ℤ) → a <ℤ b → c <ℤ d → a ≤ℤ d → c ≤ℤ b → AreSpanned a b c d
spanned a b c d s t h g = by_lt_z a d
    (λ lt. by_lt_z c b
    (λ ct. let v = shared a b c d s t lt ct in record { x = v.0; y = v.0; low_x = v.1; high_x = v.2; low_y = v.3; high_y = v.4; beside = inl refl })
    (λ le. record { x = b -ℤ pos 1; y = c; low_x = omega (arith, ints); high_x = omega (arith, ints); low_y = omega (arith, ints); high_y = t; beside = inr (inl (omega (arith, ints))) }))
    (λ le. record { x = a; y = d -ℤ pos 1; low_x = omega (arith, ints); high_x = s; low_y = omega (arith, ints); high_y = omega (arith, ints); beside = inr (inr (omega (arith, ints))) })

square : ℤ → ℤ → Square
square x y = record { x = x; y = y }

across : (a b : Rect) (y : ℤ) → AreSpanned a.x1 a.x2 b.x1 b.x2 → a.y1 ≤ℤ y → y <ℤ a.y2 → b.y1 ≤ℤ y → y <ℤ b.y2 → AreTouching a b
across a b y s h g k l =
    let p : Square = record { x = s.x; y = y } in
    let q : Square = record { x = s.y; y = y } in
    record {
      one = p;
      other = q;
      in_one = (s.low_x, s.high_x, h, g);
      in_other = (s.low_y, s.high_y, k, l);
      near = elim s.beside [
        | inl e ↦ inl (ap (λ (v : ℤ). let r : Square = record { x = v; y = y } in r) e)
        | inr e ↦ inr (inr (refl, e))
      ];
    }

along : (a b : Rect) (x : ℤ) → AreSpanned a.y1 a.y2 b.y1 b.y2 → a.x1 ≤ℤ x → x <ℤ a.x2 → b.x1 ≤ℤ x → x <ℤ b.x2 → AreTouching a b
along a b x s h g k l =
    let p : Square = record { x = x; y = s.x } in
    let q : Square = record { x = x; y = s.y } in
    record {
      one = p;
      other = q;
      in_one = (h, g, s.low_x, s.high_x);
      in_other = (k, l, s.low_y, s.high_y);
      near = elim s.beside [
        | inl e ↦ inl (ap (λ (v : ℤ). let r : Square = record { x = x; y = v } in r) e)
        | inr e ↦ inr (inl (refl, e))
      ];
    }

pub touching : (a b : Rect) → touches a b ≡ true → AreTouching a b
touching a b e =
    let h = and_parts (is_near a b) (is_rect a && is_rect b) e in
    let r = and_parts (is_rect a) (is_rect b) h.1 in
    let ra = and_parts (int_lt a.x1 a.x2) (int_lt a.y1 a.y2) r.0 in
    let rb = and_parts (int_lt b.x1 b.x2) (int_lt b.y1 b.y2) r.1 in
    let ax = lt_from a.x1 a.x2 ra.0 in
    let ay = lt_from a.y1 a.y2 ra.1 in
    let bx = lt_from b.x1 b.x2 rb.0 in
    let by = lt_from b.y1 b.y2 rb.1 in
    elim (or_cases (adjoin a.x1 a.x2 b.x1 b.x2 && overlap a.y1 a.y2 b.y1 b.y2) (overlap a.x1 a.x2 b.x1 b.x2 && adjoin a.y1 a.y2 b.y1 b.y2) h.0) [
      | inl k ↦
          let s = and_parts (adjoin a.x1 a.x2 b.x1 b.x2) (overlap a.y1 a.y2 b.y1 b.y2) k in
          let m = adjoin_of a.x1 a.x2 b.x1 b.x2 s.0 in
          let o = overlap_of a.y1 a.y2 b.y1 b.y2 s.1 in
          let y = shared a.y1 a.y2 b.y1 b.y2 ay by o.0 o.1 in
          across a b y.0 (spanned a.x1 a.x2 b.x1 b.x2 ax bx m.0 m.1) y.1 y.2 y.3 y.4
      | inr k ↦
          let s = and_parts (overlap a.x1 a.x2 b.x1 b.x2) (adjoin a.y1 a.y2 b.y1 b.y2) k in
          let o = overlap_of a.x1 a.x2 b.x1 b.x2 s.0 in
          let m = adjoin_of a.y1 a.y2 b.y1 b.y2 s.1 in
          let x = shared a.x1 a.x2 b.x1 b.x2 ax bx o.0 o.1 in
          along a b x.0 (spanned a.y1 a.y2 b.y1 b.y2 ay by m.0 m.1) x.1 x.2 x.3 x.4
    ]

-- near squares, by their coordinates
pub record AreClose (p q : Square) : Type 0 where
  pub close : ((p.y ≡ q.y) × (p.x ≤ℤ (q.x +ℤ pos 1)) × (q.x ≤ℤ (p.x +ℤ pos 1))) ⊎ ((p.x ≡ q.x) × (p.y ≤ℤ (q.y +ℤ pos 1)) × (q.y ≤ℤ (p.y +ℤ pos 1)))

close_of : (p q : Square) → IsNear p q → AreClose p q
close_of p q (inl e) =
    let ex = ap (λ (s : Square). s.x) e in
    let ey = ap (λ (s : Square). s.y) e in
    record { close = inl (ey, omega (arith, ints), omega (arith, ints)) }
close_of p q (inr (inl (ex, inl e))) = record { close = inr (ex, omega (arith, ints), omega (arith, ints)) }
close_of p q (inr (inl (ex, inr e))) = record { close = inr (ex, omega (arith, ints), omega (arith, ints)) }
close_of p q (inr (inr (ey, inl e))) = record { close = inl (ey, omega (arith, ints), omega (arith, ints)) }
close_of p q (inr (inr (ey, inr e))) = record { close = inl (ey, omega (arith, ints), omega (arith, ints)) }

near_of : (a b : Rect) (p q : Square) → IsIn p a → IsIn q b → AreClose p q → is_near a b ≡ true
near_of a b p q (ax, ax', ay, ay') (bx, bx', by, by') h = elim h.close [
  | inl k ↦
      let k0 = k.0 in let k1 = k.1 in let k2 = k.2 in
      or_left (adjoin a.x1 a.x2 b.x1 b.x2 && overlap a.y1 a.y2 b.y1 b.y2) (overlap a.x1 a.x2 b.x1 b.x2 && adjoin a.y1 a.y2 b.y1 b.y2)
      (and_from (adjoin a.x1 a.x2 b.x1 b.x2) (overlap a.y1 a.y2 b.y1 b.y2) (adjoin_to a.x1 a.x2 b.x1 b.x2 (omega (arith, ints)) (omega (arith, ints)) (omega (arith, ints)) (omega (arith, ints))) (overlap_to a.y1 a.y2 b.y1 b.y2 (omega (arith, ints)) (omega (arith, ints)) (omega (arith, ints)) (omega (arith, ints))))
  | inr k ↦
      let k0 = k.0 in let k1 = k.1 in let k2 = k.2 in
      or_right (adjoin a.x1 a.x2 b.x1 b.x2 && overlap a.y1 a.y2 b.y1 b.y2) (overlap a.x1 a.x2 b.x1 b.x2 && adjoin a.y1 a.y2 b.y1 b.y2)
      (and_from (overlap a.x1 a.x2 b.x1 b.x2) (adjoin a.y1 a.y2 b.y1 b.y2) (overlap_to a.x1 a.x2 b.x1 b.x2 (omega (arith, ints)) (omega (arith, ints)) (omega (arith, ints)) (omega (arith, ints))) (adjoin_to a.y1 a.y2 b.y1 b.y2 (omega (arith, ints)) (omega (arith, ints)) (omega (arith, ints)) (omega (arith, ints))))
]

rect_of : (a : Rect) (p : Square) → IsIn p a → is_rect a ≡ true
rect_of a p (ax, ax', ay, ay') = and_from (int_lt a.x1 a.x2) (int_lt a.y1 a.y2) (lt_to a.x1 a.x2 (omega (arith, ints))) (lt_to a.y1 a.y2 (omega (arith, ints)))

pub touching_back : (a b : Rect) → AreTouching a b → touches a b ≡ true
touching_back a b h =
    and_from (is_near a b) (is_rect a && is_rect b) (near_of a b h.one h.other h.in_one h.in_other (close_of h.one h.other h.near))
    (and_from (is_rect a) (is_rect b) (rect_of a h.one h.in_one) (rect_of b h.other h.in_other))

-- what the sides of touching rectangles say
pub record AreBeside (a b : Rect) : Type 0 where
  pub x : a.x1 ≤ℤ b.x2
  pub x' : b.x1 ≤ℤ a.x2
  pub y : a.y1 ≤ℤ b.y2
  pub y' : b.y1 ≤ℤ a.y2
  pub wide : a.x1 <ℤ a.x2
  pub wide' : b.x1 <ℤ b.x2
  pub high : a.y1 <ℤ a.y2
  pub high' : b.y1 <ℤ b.y2

sides_of : (a b : Rect) (p q : Square) → IsIn p a → IsIn q b → AreClose p q → AreBeside a b
sides_of a b p q (ax, ax', ay, ay') (bx, bx', by, by') h = elim h.close [
  | inl k ↦
      let k0 = k.0 in let k1 = k.1 in let k2 = k.2 in
      record { x = omega (arith, ints); x' = omega (arith, ints); y = omega (arith, ints); y' = omega (arith, ints); wide = omega (arith, ints); wide' = omega (arith, ints); high = omega (arith, ints); high' = omega (arith, ints) }
  | inr k ↦
      let k0 = k.0 in let k1 = k.1 in let k2 = k.2 in
      record { x = omega (arith, ints); x' = omega (arith, ints); y = omega (arith, ints); y' = omega (arith, ints); wide = omega (arith, ints); wide' = omega (arith, ints); high = omega (arith, ints); high' = omega (arith, ints) }
]

pub sides : (a b : Rect) → AreTouching a b → AreBeside a b
sides a b h = sides_of a b h.one h.other h.in_one h.in_other (close_of h.one h.other h.near)

near_back : (p q : Square) → IsNear p q → IsNear q p
near_back p q (inl e) = inl (sym e)
near_back p q (inr (inl (ex, inl e))) = inr (inl (sym ex, inr e))
near_back p q (inr (inl (ex, inr e))) = inr (inl (sym ex, inl e))
near_back p q (inr (inr (ey, inl e))) = inr (inr (sym ey, inr e))
near_back p q (inr (inr (ey, inr e))) = inr (inr (sym ey, inl e))

pub touching_turned : (a b : Rect) → AreTouching a b → AreTouching b a
touching_turned a b h = record { one = h.other; other = h.one; in_one = h.in_other; in_other = h.in_one; near = near_back h.one h.other h.near }
