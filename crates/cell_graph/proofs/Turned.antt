-- Sides of turned and moved points.
use Rattle.std.proofs.Common.{◌≡◌, ◌⊎◌, inl, inr, ℕ, ◌<◌, ◌^◌, ℤ, pos, ◌+ℤ◌, ◌-ℤ◌, ◌≤ℤ◌, Option, Some, None, refl, sym, ◌∙◌, ap, subst, arith}
use Rattle.std.proofs.lemmas.Int.{ints}
use Rattle.geo_base.specs.Motions.{mirrored, quarter_turned, turned, moved_point}
use Rattle.geo_base.specs.Near.{IsWithin}
use Rattle.geo_base.specs.declared.motion.Motion.{Motion}
use Rattle.geo_base.specs.declared.motion.Turn.{Turn}
use Rattle.geo_base.specs.declared.motion.Turn.TheVariants.{R0, R90, R180, R270, M0, M90, M180, M270}
use Rattle.geo_base.specs.declared.shapes.Point.{Point}
use Rattle.geo_base.proofs.Turning.{same_point}
use Rattle.cell_graph.specs.declared.cells.Place.{Place}
use Rattle.cell_graph.specs.Linked.{motion_at}
use Rattle.cell_graph.specs.declared.arrays.Interval.{Interval}
use Rattle.cell_graph.specs.declared.bounds.Bounds.{Bounds}
use Rattle.cell_graph.specs.Sides.{Side, Left, Low, Right, High, value, side_of, Holds, Widens, AreNear, AreNearIfAny, IsCornerPoint, low_corner, high_corner}
use Rattle.cell_graph.specs.Arrays.{origin, AreOrigins, TurnedPoint, ArrayPoint, IsSpread}
use Rattle.cell_graph.proofs.Widening.{widens_both, same_points, swapped}

abbrev mirror_side : Side → Side
mirror_side Left = Left
mirror_side Low = High
mirror_side Right = Right
mirror_side High = Low

abbrev quarter_side : Side → Side
quarter_side Left = High
quarter_side Low = Left
quarter_side Right = Low
quarter_side High = Right

mirror_value : (s : Side) (p : Point) → value s (mirrored p) ≡ value (mirror_side s) p
mirror_value Left p = refl
mirror_value Low p = refl
mirror_value Right p = refl
mirror_value High p = omega (arith, ints)

quarter_value : (s : Side) (p : Point) → value s (quarter_turned p) ≡ value (quarter_side s) p
quarter_value Left p = refl
quarter_value Low p = refl
quarter_value Right p = omega (arith, ints)
quarter_value High p = refl

-- the side that a turn takes to this one
abbrev pub turned_side : Turn → Side → Side
turned_side R0 s = s
turned_side R90 s = quarter_side s
turned_side R180 s = quarter_side (quarter_side s)
turned_side R270 s = quarter_side (quarter_side (quarter_side s))
turned_side M0 s = mirror_side s
turned_side M90 s = mirror_side (quarter_side s)
turned_side M180 s = mirror_side (quarter_side (quarter_side s))
turned_side M270 s = mirror_side (quarter_side (quarter_side (quarter_side s)))

turned_value : (t : Turn) (s : Side) (p : Point) → value s (turned t p) ≡ value (turned_side t s) p
turned_value R0 s p = refl
turned_value R90 s p = quarter_value s p
turned_value R180 s p = quarter_value s (quarter_turned p) ∙ quarter_value (quarter_side s) p
turned_value R270 s p = quarter_value s (quarter_turned (quarter_turned p)) ∙ quarter_value (quarter_side s) (quarter_turned p) ∙ quarter_value (quarter_side (quarter_side s)) p
turned_value M0 s p = mirror_value s p
turned_value M90 s p = quarter_value s (mirrored p) ∙ mirror_value (quarter_side s) p
turned_value M180 s p = quarter_value s (quarter_turned (mirrored p)) ∙ quarter_value (quarter_side s) (mirrored p) ∙ mirror_value (quarter_side (quarter_side s)) p
turned_value M270 s p = quarter_value s (quarter_turned (quarter_turned (mirrored p))) ∙ quarter_value (quarter_side s) (quarter_turned (mirrored p)) ∙ quarter_value (quarter_side (quarter_side s)) (mirrored p) ∙ mirror_value (quarter_side (quarter_side (quarter_side s))) p

abbrev pub shift : Side → Motion → ℤ
shift Left m = m.dx
shift Low m = m.dy
shift Right m = pos 0 -ℤ m.dx
shift High m = pos 0 -ℤ m.dy

pub moved_value : (m : Motion) (s : Side) (p : Point) → value s (moved_point m p) ≡ value (turned_side m.turn s) p +ℤ shift s m
moved_value m s p = split s ∙ ap (λ z. z +ℤ shift s m) (turned_value m.turn s p)
  where
    split : (s : Side) → value s (moved_point m p) ≡ value s (turned m.turn p) +ℤ shift s m
    split Left = refl
    split Low = refl
    split Right = omega (arith, ints)
    split High = omega (arith, ints)

value_near : (s : Side) (p : Point) → IsWithin (2 ^ 36) p.x → IsWithin (2 ^ 36) p.y → IsWithin (2 ^ 36) (value s p)
value_near Left p x y = x
value_near Low p x y = y
value_near Right p x y = let l = x.low in let h = x.high in record { low = omega (arith, ints); high = omega (arith, ints) }
value_near High p x y = let l = y.low in let h = y.high in record { low = omega (arith, ints); high = omega (arith, ints) }

-- the corner of a side
abbrev pub corner : Side → Bounds → Point
corner Left b = low_corner b
corner Low b = low_corner b
corner Right b = high_corner b
corner High b = high_corner b

pub corner_value : (s : Side) (b : Bounds) → value s (corner s b) ≡ side_of s b
corner_value Left b = refl
corner_value Low b = refl
corner_value Right b = refl
corner_value High b = refl

pub corner_is : (s : Side) (b : Bounds) → IsCornerPoint (Some b) (corner s b)
corner_is Left b = inl refl
corner_is Low b = inl refl
corner_is Right b = inr refl
corner_is High b = inr refl

-- turned corners
pub turned_nothing : (turn : Turn) (zero' : Point) (r : Option Bounds) → zero'.x ≡ pos 0 → zero'.y ≡ pos 0 → Widens None (λ p. p ≡ zero') r → Widens None (TurnedPoint turn (IsCornerPoint None)) r
turned_nothing turn o r x y h = same_points None r (λ p. p ≡ o) (TurnedPoint turn (IsCornerPoint None))
    (λ p e. inl (ap (λ (v : Point). v.x) e ∙ x, ap (λ (v : Point). v.y) e ∙ y))
    (λ p h. elim h [ inl (px, py) ↦ same_point p o (px ∙ sym x) (py ∙ sym y) | inr (q, c, e) ↦ absurd c ])
    h

pub turned_corners : (turn : Turn) (o low high : Point) (b : Bounds) (first r : Option Bounds) → o.x ≡ pos 0 → o.y ≡ pos 0
    → low ≡ turned turn (low_corner b) → high ≡ turned turn (high_corner b)
    → Widens None (λ p. p ≡ o) first → Widens first (λ p. (p ≡ low) ⊎ (p ≡ high)) r → Widens None (TurnedPoint turn (IsCornerPoint (Some b))) r
turned_corners turn o low high b first r x y is_low is_high h g =
    same_points None r (λ p. (p ≡ o) ⊎ ((p ≡ low) ⊎ (p ≡ high))) (TurnedPoint turn (IsCornerPoint (Some b)))
    (λ p h. elim h [
      | inl e ↦ inl (ap (λ (v : Point). v.x) e ∙ x, ap (λ (v : Point). v.y) e ∙ y)
      | inr k ↦ elim k [ inl e ↦ inr (low_corner b, inl refl, sym (e ∙ is_low)) | inr e ↦ inr (high_corner b, inr refl, sym (e ∙ is_high)) ]
    ])
    (λ p h. elim h [
      | inl (px, py) ↦ inl (same_point p o (px ∙ sym x) (py ∙ sym y))
      | inr (q, c, e) ↦ elim c [
        | inl f ↦ inr (inl (sym e ∙ ap (turned turn) f ∙ sym is_low))
        | inr f ↦ inr (inr (sym e ∙ ap (turned turn) f ∙ sym is_high))
      ]
    ])
    (widens_both None first r (λ p. p ≡ o) (λ p. (p ≡ low) ⊎ (p ≡ high)) h g)

turned_near : (turn : Turn) (inner : Option Bounds) (p : Point) → AreNearIfAny inner → TurnedPoint turn (IsCornerPoint inner) p → (s : Side) → IsWithin (2 ^ 36) (value s p)
turned_near turn inner p near (inl (x, y)) s = value_near s p (record { low = omega (arith, ints); high = omega (arith, ints) }) (record { low = omega (arith, ints); high = omega (arith, ints) })
turned_near turn None p near (inr (q, c, e)) s = absurd c
turned_near turn (Some b) p near (inr (q, c, e)) s =
    let from : value s p ≡ value (turned_side turn s) q = ap (value s) (sym e) ∙ turned_value turn s q in
    let at_low : IsWithin (2 ^ 36) (value (turned_side turn s) (low_corner b)) = value_near (turned_side turn s) (low_corner b) near.x1 near.y1 in
    let at_high : IsWithin (2 ^ 36) (value (turned_side turn s) (high_corner b)) = value_near (turned_side turn s) (high_corner b) near.x2 near.y2 in
    subst (IsWithin (2 ^ 36)) (sym from) (elim c [
      | inl f ↦ subst (λ q. IsWithin (2 ^ 36) (value (turned_side turn s) q)) (sym f) at_low
      | inr f ↦ subst (λ q. IsWithin (2 ^ 36) (value (turned_side turn s) q)) (sym f) at_high
    ])

pub turned_all_near : (turn : Turn) (inner : Option Bounds) (r : Bounds) → AreNearIfAny inner → Widens None (TurnedPoint turn (IsCornerPoint inner)) (Some r) → AreNear r
turned_all_near turn inner r near h = record {
  x1 = side Left;
  y1 = side Low;
  x2 = back r.x2 (side Right);
  y2 = back r.y2 (side High);
}
  where
    side : (s : Side) → IsWithin (2 ^ 36) (side_of s r)
    side s = elim (h.sides s r refl) [ inl f ↦ absurd f | inr (q, t, e) ↦ subst (IsWithin (2 ^ 36)) e (turned_near turn inner q near t s) ]

    back : (z : ℤ) → IsWithin (2 ^ 36) (pos 0 -ℤ z) → IsWithin (2 ^ 36) z
    back z w = let l = w.low in let g = w.high in record { low = omega (arith, ints); high = omega (arith, ints) }

-- points of elements are sums
abbrev origin_x : Place → ℕ → ℕ → ℤ
origin_x place row column = origin place.motion.dx place.column_step.x place.row_step.x row column

abbrev origin_y : Place → ℕ → ℕ → ℤ
origin_y place row column = origin place.motion.dy place.column_step.y place.row_step.y row column

abbrev IsSum : Place → ℕ → ℕ → Point → Point → Type 0
IsSum place row column t p = (p.x ≡ origin_x place row column +ℤ t.x) × (p.y ≡ origin_y place row column +ℤ t.y)

sum_point : (place : Place) (C : Point → Type 0) (row column : ℕ) (t : Point) → row < place.rows → column < place.columns → TurnedPoint place.motion.turn C t
    → (p : Point) × ArrayPoint place C p × IsSum place row column t p
sum_point place C row column t in_rows in_columns (inl (x, y)) =
    let p : Point = record { x = origin_x place row column; y = origin_y place row column } in
    (p, (row, column, in_rows, in_columns, inl (refl, refl)), (same (origin_x place row column) t.x x, same (origin_y place row column) t.y y))
  where
    same : (o z : ℤ) → z ≡ pos 0 → o ≡ o +ℤ z
    same o z e = omega (arith, ints)
sum_point place C row column t in_rows in_columns (inr (q, c, e)) =
    let m = motion_at place row column in (
      moved_point m q,
      (row, column, in_rows, in_columns, inr (q, c, refl)),
      (turn_sum (turned place.motion.turn q).x t.x (origin_x place row column) (ap (λ (v : Point). v.x) e), turn_sum (turned place.motion.turn q).y t.y (origin_y place row column) (ap (λ (v : Point). v.y) e)),
    )
  where
    turn_sum : (a t o : ℤ) → a ≡ t → a +ℤ o ≡ o +ℤ t
    turn_sum a t o e = omega (arith, ints)

pub record IsSumOf (place : Place) (C : Point → Type 0) (p : Point) : Type 0 where
  pub row : ℕ
  pub column : ℕ
  pub in_rows : row < place.rows
  pub in_columns : column < place.columns
  pub part : Point
  pub turns : TurnedPoint place.motion.turn C part
  pub is : IsSum place row column part p

point_sum : (place : Place) (C : Point → Type 0) (p : Point) → ArrayPoint place C p → IsSumOf place C p
point_sum place C p (row, column, in_rows, in_columns, inl (x, y)) = record {
  row = row;
  column = column;
  in_rows = in_rows;
  in_columns = in_columns;
  part = record { x = pos 0; y = pos 0 };
  turns = inl (refl, refl);
  is = (plain p.x (origin_x place row column) x, plain p.y (origin_y place row column) y);
}
  where
    plain : (z o : ℤ) → z ≡ o → z ≡ o +ℤ pos 0
    plain z o e = omega (arith, ints)
point_sum place C p (row, column, in_rows, in_columns, inr (q, c, e)) = record {
  row = row;
  column = column;
  in_rows = in_rows;
  in_columns = in_columns;
  part = turned place.motion.turn q;
  turns = inr (q, c, refl);
  is = (turn_sum (turned place.motion.turn q).x p.x (origin_x place row column) (ap (λ (v : Point). v.x) e), turn_sum (turned place.motion.turn q).y p.y (origin_y place row column) (ap (λ (v : Point). v.y) e));
}
  where
    turn_sum : (a z o : ℤ) → a +ℤ o ≡ z → z ≡ o +ℤ a
    turn_sum a z o e = omega (arith, ints)

pub spread_least : (place : Place) (C : Point → Type 0) (t r : Bounds) (x y : Interval)
    → AreOrigins place.motion.dx place.column_step.x place.row_step.x place.rows place.columns x
    → AreOrigins place.motion.dy place.column_step.y place.row_step.y place.rows place.columns y
    → Widens None (TurnedPoint place.motion.turn C) (Some t) → IsSpread t x y r → Widens None (ArrayPoint place C) (Some r)
spread_least place C t r x y ox oy least is = record {
  kept = λ p h. absurd h;
  holds = λ p h. held p (point_sum place C p h);
  sides = λ s b e. inr (subst (λ b. (q : Point) × ArrayPoint place C q × (value s q ≡ side_of s b)) (let g : Some r ≡ Some b = e in let f : r ≡ b = cc in f) (attained s));
}
  where
    held : (p : Point) → IsSumOf place C p → Holds (Some r) p
    held p h = all (least.holds h.part h.turns) h.is (ox.holds h.row h.column h.in_rows h.in_columns) (oy.holds h.row h.column h.in_rows h.in_columns) is.left_is is.low_is is.right_is is.high_is
      where
        all : Holds (Some t) h.part → IsSum place h.row h.column h.part p → (x.low ≤ℤ origin_x place h.row h.column) × (origin_x place h.row h.column ≤ℤ x.high)
            → (y.low ≤ℤ origin_y place h.row h.column) × (origin_y place h.row h.column ≤ℤ y.high)
            → r.x1 ≡ t.x1 +ℤ x.low → r.y1 ≡ t.y1 +ℤ y.low → r.x2 ≡ t.x2 +ℤ x.high → r.y2 ≡ t.y2 +ℤ y.high → Holds (Some r) p
        all low (px, py) (x0, x1) (y0, y1) e1 e2 e3 e4 Left = let g = low Left in omega (arith, ints)
        all low (px, py) (x0, x1) (y0, y1) e1 e2 e3 e4 Low = let g = low Low in omega (arith, ints)
        all low (px, py) (x0, x1) (y0, y1) e1 e2 e3 e4 Right = let g = low Right in omega (arith, ints)
        all low (px, py) (x0, x1) (y0, y1) e1 e2 e3 e4 High = let g = low High in omega (arith, ints)

    far : (s : Side) → (q : Point) × TurnedPoint place.motion.turn C q × (value s q ≡ side_of s t)
    far s = elim (least.sides s t refl) [ inl h ↦ absurd h | inr h ↦ h ]

    low_sum : (p o a l b r : ℤ) → p ≡ o +ℤ a → o ≡ l → a ≡ b → r ≡ b +ℤ l → p ≡ r
    low_sum p o a l b r e f g h = omega (arith, ints)

    high_sum : (p o a l b r : ℤ) → p ≡ o +ℤ a → o ≡ l → pos 0 -ℤ a ≡ pos 0 -ℤ b → r ≡ b +ℤ l → pos 0 -ℤ p ≡ pos 0 -ℤ r
    high_sum p o a l b r e f g h = omega (arith, ints)

    attained : (s : Side) → (q : Point) × ArrayPoint place C q × (value s q ≡ side_of s r)
    attained Left = let f = far Left in let o = ox.low in let p = sum_point place C o.0 o.1 f.0 o.2 o.3 f.1 in
        (p.0, p.1, low_sum p.0.x (origin_x place o.0 o.1) f.0.x x.low t.x1 r.x1 p.2.0 o.4 f.2 is.left_is)
    attained Low = let f = far Low in let o = oy.low in let p = sum_point place C o.0 o.1 f.0 o.2 o.3 f.1 in
        (p.0, p.1, low_sum p.0.y (origin_y place o.0 o.1) f.0.y y.low t.y1 r.y1 p.2.1 o.4 f.2 is.low_is)
    attained Right = let f = far Right in let o = ox.high in let p = sum_point place C o.0 o.1 f.0 o.2 o.3 f.1 in
        (p.0, p.1, high_sum p.0.x (origin_x place o.0 o.1) f.0.x x.high t.x2 r.x2 p.2.0 o.4 f.2 is.right_is)
    attained High = let f = far High in let o = oy.high in let p = sum_point place C o.0 o.1 f.0 o.2 o.3 f.1 in
        (p.0, p.1, high_sum p.0.y (origin_y place o.0 o.1) f.0.y y.high t.y2 r.y2 p.2.1 o.4 f.2 is.high_is)

-- from corners of bounds to the points that they bound
from_to : (b x : ℤ) (p q : ℤ) → b ≤ℤ p → p ≤ℤ q → b ≤ℤ q
from_to b x p q e f = omega (arith, ints)

pub corner_in : (Q : Point → Type 0) (b : Bounds) → Widens None Q (Some b) → (c : Point) → IsCornerPoint (Some b) c → Holds (Some b) c
corner_in Q b least c is s = elim is [
  | inl f ↦ subst (λ c. side_of s b ≤ℤ value s c) (sym f) (side_below s).0
  | inr f ↦ subst (λ c. side_of s b ≤ℤ value s c) (sym f) (side_below s).1
]
  where
    side : (s : Side) → (q : Point) × Q q × (value s q ≡ side_of s b)
    side s = elim (least.sides s b refl) [ inl f ↦ absurd f | inr f ↦ f ]

    wide : b.x1 ≤ℤ b.x2
    wide = let q = side Left in let l = q.2 in let r = least.holds q.0 q.1 Right in omega (arith, ints)

    tall : b.y1 ≤ℤ b.y2
    tall = let q = side Low in let l = q.2 in let r = least.holds q.0 q.1 High in omega (arith, ints)

    side_below : (s : Side) → (side_of s b ≤ℤ value s (low_corner b)) × (side_of s b ≤ℤ value s (high_corner b))
    side_below Left = let w = wide in ((omega (arith, ints)), w)
    side_below Low = let w = tall in ((omega (arith, ints)), w)
    side_below Right = let w = wide in ((omega (arith, ints)), (omega (arith, ints)))
    side_below High = let w = tall in ((omega (arith, ints)), (omega (arith, ints)))

pub from_corners : (old : Option Bounds) (Q : Point → Type 0) (b r : Bounds) → Widens None Q (Some b) → Widens old (λ p. (p ≡ low_corner b) ⊎ (p ≡ high_corner b)) (Some r) → Widens old Q (Some r)
from_corners old Q b r least h =
    swapped old (Some r) (λ p. (p ≡ low_corner b) ⊎ (p ≡ high_corner b)) Q h
    (λ p q s.
    let c : Holds (Some r) (corner s b) = h.holds (corner s b) (corner_is s b) in
    let inside = least.holds p q in
    from_to (side_of s r) (side_of s b) (side_of s b) (value s p) (subst (λ z. side_of s r ≤ℤ z) (corner_value s b) (c s)) (inside s))
    (λ c is s.
    let far = side s in
    (far.0, far.1, subst (λ z. z ≤ℤ value s c) (sym far.2) (corner_in Q b least c is s)))
  where
    side : (s : Side) → (q : Point) × Q q × (value s q ≡ side_of s b)
    side s = elim (least.sides s b refl) [ inl f ↦ absurd f | inr f ↦ f ]

pub unmoved : (turn : Turn) (p q : Point) → q ≡ moved_point (record { turn = turn; dx = pos 0; dy = pos 0 }) p → q ≡ turned turn p
unmoved turn p q e = e ∙ same_point (moved_point (record { turn = turn; dx = pos 0; dy = pos 0 }) p) (turned turn p) (plain (turned turn p).x) (plain (turned turn p).y)
  where
    plain : (z : ℤ) → z +ℤ pos 0 ≡ z
    plain z = omega (arith, ints)
