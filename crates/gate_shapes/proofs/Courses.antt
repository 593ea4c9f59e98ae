-- What the tests on sides tell, and the two ways in which a rectangle lies between two others.
use Rattle.std.proofs.Common.{◌≡◌, ◌↔◌, inl, inr, ◌<◌, ℤ, ◌≤ℤ◌, ◌<ℤ◌, List, [], ◌∷◌, Bool, true, false, Result, Ok, Err, Option, Some, None, length, slice_index_or, refl, sym, ◌∙◌, subst, arith}
use Rattle.std.proofs.lemmas.Int.{ints}
use Rattle.std.proofs.lemmas.Bool.{false≢true, or_left, or_right, or_cases, and_parts}
use Rattle.std.proofs.lemmas.Bool.Decides.{Decides-int_eq}
use Rattle.std.specs.Ordering.{int_eq}
use Rattle.std.specs.declared.alloc.AllocError.{AllocError}
use Rattle.std.specs.Prelude.{IfOk, IfSome}
use Rattle.std.specs.List.{All}
use Rattle.geo_base.specs.Rects.{has, is_inside, IsRect}
use Rattle.geo_base.proofs.Meeting.{inside_from}
use Rattle.geo_base.proofs.Meeting.{inside_has as within_has}
use Rattle.geo_base.specs.declared.shapes.Rect.{Rect}
use Rattle.geo_base.specs.declared.shapes.Square.{Square}
use Rattle.rect_sets.specs.Rects.{covers}
use Rattle.rect_sets.proofs.Splitting.{IsInside}
use Rattle.flat_layout.specs.Parts.{AllOn, InSideOf}
use Rattle.flat_layout.specs.Plane.{SharesEdge}
use Rattle.gate_shapes.specs.Plain.{beyond, is_held, is_left, is_under, is_level, is_upright, same_rows, same_columns, IsPlainForm}
use Rattle.gate_shapes.specs.Sets.{in_set}
use Rattle.gate_shapes.specs.Shapes.{IsGood, sheets_of}
use Rattle.gate_shapes.specs.declared.border.Side.TheVariants.{Right, Up, Left, Down}
use Rattle.gate_shapes.specs.declared.shape.GateForm.{GateForm}
use Rattle.gate_shapes.proofs.Areas.{inside_has}
use Rattle.gate_shapes.proofs.Between.{two_ends}
use Rattle.gate_shapes.proofs.Strips.{one_has, two_have, has_first, has_second, beyond_rect, in_ring, near_part, level_border, upright_border, strip_some}

-- what the tests on sides tell

record IsLeftOf (a b : Rect) : Type 0 where
  meets : a.x2 ≡ b.x1
  low : a.y1 ≡ b.y1
  high : a.y2 ≡ b.y2

record IsUnder (a b : Rect) : Type 0 where
  meets : a.y2 ≡ b.y1
  low : a.x1 ≡ b.x1
  high : a.x2 ≡ b.x2

left_from : (a b : Rect) → is_left a b ≡ true → IsLeftOf a b
left_from a b e =
    let p = and_parts (int_eq a.x2 b.x1) (same_rows a b) e in
    let q = and_parts (int_eq a.y1 b.y1) (int_eq a.y2 b.y2) p.1 in
    record { meets = (Decides-int_eq a.x2 b.x1).0 p.0; low = (Decides-int_eq a.y1 b.y1).0 q.0; high = (Decides-int_eq a.y2 b.y2).0 q.1 }

under_from : (a b : Rect) → is_under a b ≡ true → IsUnder a b
under_from a b e =
    let p = and_parts (int_eq a.y2 b.y1) (same_columns a b) e in
    let q = and_parts (int_eq a.x1 b.x1) (int_eq a.x2 b.x2) p.1 in
    record { meets = (Decides-int_eq a.y2 b.y1).0 p.0; low = (Decides-int_eq a.x1 b.x1).0 q.0; high = (Decides-int_eq a.x2 b.x2).0 q.1 }

-- one rectangle of the list that has all of it
pub held_on : (r : Rect) (rects : List Rect) → is_held r rects ≡ true → AllOn (in_set (r ∷ [])) (in_set rects)
held_on r [] e q h = absurd (false≢true e)
held_on r (outer ∷ rects) e q h = elim (or_cases (is_inside r outer) (is_held r rects) e) [
  | inl f ↦ or_left (has outer q) (covers rects q) (within_has r outer q (inside_from r outer f) (inside_has r q (one_has r q h)))
  | inr f ↦ or_right (has outer q) (covers rects q) (held_on r rects f q h)
]

module _ (one r other : Rect) (good_one : IsRect one) (good : IsRect r) (good_other : IsRect other) where
  abbrev ends : List Rect
  ends = one ∷ (other ∷ [])

  module _ (before : IsLeftOf one r) (behind : IsLeftOf r other) where
    left_taken : (q : Square) → IsInside (beyond Left r) q → in_set ends q
    left_taken q h =
        let a = h.x1 in let b = h.x2 in let c = h.y1 in let d = h.y2 in
        let e = before.meets in let f = before.low in let g = before.high in let w = good_one.wide in
        has_first one other q (record { x1 = omega (arith, ints); x2 = omega (arith, ints); y1 = omega (arith, ints); y2 = omega (arith, ints) })

    right_taken : (q : Square) → IsInside (beyond Right r) q → in_set ends q
    right_taken q h =
        let a = h.x1 in let b = h.x2 in let c = h.y1 in let d = h.y2 in
        let e = behind.meets in let f = behind.low in let g = behind.high in let w = good_other.wide in
        has_second one other q (record { x1 = omega (arith, ints); x2 = omega (arith, ints); y1 = omega (arith, ints); y2 = omega (arith, ints) })

    level_rows : (q : Square) → in_set ends q → (r.y1 ≤ℤ q.y) × (q.y <ℤ r.y2)
    level_rows q e = elim (two_have one other q e) [
      | inl h ↦ (omega (arith, ints, before.low, h.y1), omega (arith, ints, before.high, h.y2))
      | inr h ↦ (omega (arith, ints, behind.low, h.y1), omega (arith, ints, behind.high, h.y2))
    ]

    down_free : (q : Square) → IsInside (beyond Down r) q → in_set ends q → ⊥
    down_free q h e = let p = (level_rows q e).0 in let d = h.y2 in omega (arith, ints)

    up_free : (q : Square) → IsInside (beyond Up r) q → in_set ends q → ⊥
    up_free q h e = let p = (level_rows q e).1 in let d = h.y1 in omega (arith, ints)

    level_sides : (q : Square) → in_set (beyond Left r ∷ (beyond Right r ∷ [])) q ↔ InSideOf (in_set (r ∷ [])) (in_set ends) q
    level_sides q = (
      (λ e. elim (two_have (beyond Left r) (beyond Right r) q e) [
        | inl h ↦ record { ring = in_ring r good Left q h; sd = left_taken q h }
        | inr h ↦ record { ring = in_ring r good Right q h; sd = right_taken q h }
      ]),
      (λ s.
          let n = near_part r good q s.ring.close in
          let x1 = n.x1 in let x2 = n.x2 in
          let rows = level_rows q s.sd in
          elim (two_have one other q s.sd) [
            | inl h ↦ let b = h.x2 in let e = before.meets in
                has_first (beyond Left r) (beyond Right r) q (record { x1 = omega (arith, ints); x2 = omega (arith, ints); y1 = rows.0; y2 = rows.1 })
            | inr h ↦ let a = h.x1 in let e = behind.meets in
                has_second (beyond Left r) (beyond Right r) q (record { x1 = omega (arith, ints); x2 = omega (arith, ints); y1 = rows.0; y2 = rows.1 })
          ]),
    )

    level_apart : (p q : Square) → IsInside (beyond Left r) p → IsInside (beyond Right r) q → SharesEdge p q → ⊥
    level_apart p q h g (inl (e, f)) = let w = good.wide in let a = h.x2 in let b = g.x1 in omega (arith, ints)
    level_apart p q h g (inr (e, inl f)) = let w = good.wide in let a = h.x2 in let b = g.x1 in omega (arith, ints)
    level_apart p q h g (inr (e, inr f)) = let w = good.wide in let a = h.x2 in let b = g.x1 in omega (arith, ints)

    level_law : (on_ends on_gate on_bulk : List Rect) (loose : Bool) (f : GateForm) → IsPlainForm r Left Right Down Up on_ends on_gate on_bulk loose f → IsGood (sheets_of ends on_ends on_gate on_bulk loose) (in_set (r ∷ [])) f
    level_law on_ends on_gate on_bulk loose f h =
        let some = strip_some r good Down in let w = good.wide in
        two_ends (beyond Left r) (beyond Right r) (beyond_rect Left r good) (beyond_rect Right r good) level_apart (r ∷ []) ends on_ends on_gate on_bulk loose f level_sides
        (level_border r good ends f.twice_w f.twice_l left_taken right_taken down_free up_free h.wide h.long) (inr (refl, omega (arith, ints))) (omega (arith, some, h.long)) h.source h.drain
        h.on.gate_on h.on.source_on h.on.drain_on h.on.bulk_on

  module _ (before : IsUnder one r) (behind : IsUnder r other) where
    below_taken : (q : Square) → IsInside (beyond Down r) q → in_set ends q
    below_taken q h =
        let a = h.x1 in let b = h.x2 in let c = h.y1 in let d = h.y2 in
        let e = before.meets in let f = before.low in let g = before.high in let w = good_one.high in
        has_first one other q (record { x1 = omega (arith, ints); x2 = omega (arith, ints); y1 = omega (arith, ints); y2 = omega (arith, ints) })

    above_taken : (q : Square) → IsInside (beyond Up r) q → in_set ends q
    above_taken q h =
        let a = h.x1 in let b = h.x2 in let c = h.y1 in let d = h.y2 in
        let e = behind.meets in let f = behind.low in let g = behind.high in let w = good_other.high in
        has_second one other q (record { x1 = omega (arith, ints); x2 = omega (arith, ints); y1 = omega (arith, ints); y2 = omega (arith, ints) })

    upright_columns : (q : Square) → in_set ends q → (r.x1 ≤ℤ q.x) × (q.x <ℤ r.x2)
    upright_columns q e = elim (two_have one other q e) [
      | inl h ↦ (omega (arith, ints, before.low, h.x1), omega (arith, ints, before.high, h.x2))
      | inr h ↦ (omega (arith, ints, behind.low, h.x1), omega (arith, ints, behind.high, h.x2))
    ]

    left_free : (q : Square) → IsInside (beyond Left r) q → in_set ends q → ⊥
    left_free q h e = let p = (upright_columns q e).0 in let d = h.x2 in omega (arith, ints)

    right_free : (q : Square) → IsInside (beyond Right r) q → in_set ends q → ⊥
    right_free q h e = let p = (upright_columns q e).1 in let d = h.x1 in omega (arith, ints)

    upright_sides : (q : Square) → in_set (beyond Down r ∷ (beyond Up r ∷ [])) q ↔ InSideOf (in_set (r ∷ [])) (in_set ends) q
    upright_sides q = (
      (λ e. elim (two_have (beyond Down r) (beyond Up r) q e) [
        | inl h ↦ record { ring = in_ring r good Down q h; sd = below_taken q h }
        | inr h ↦ record { ring = in_ring r good Up q h; sd = above_taken q h }
      ]),
      (λ s.
          let n = near_part r good q s.ring.close in
          let y1 = n.y1 in let y2 = n.y2 in
          let columns = upright_columns q s.sd in
          elim (two_have one other q s.sd) [
            | inl h ↦ let b = h.y2 in let e = before.meets in
                has_first (beyond Down r) (beyond Up r) q (record { x1 = columns.0; x2 = columns.1; y1 = omega (arith, ints); y2 = omega (arith, ints) })
            | inr h ↦ let a = h.y1 in let e = behind.meets in
                has_second (beyond Down r) (beyond Up r) q (record { x1 = columns.0; x2 = columns.1; y1 = omega (arith, ints); y2 = omega (arith, ints) })
          ]),
    )

    upright_apart : (p q : Square) → IsInside (beyond Down r) p → IsInside (beyond Up r) q → SharesEdge p q → ⊥
    upright_apart p q h g (inl (e, inl f)) = let w = good.high in let a = h.y2 in let b = g.y1 in omega (arith, ints)
    upright_apart p q h g (inl (e, inr f)) = let w = good.high in let a = h.y2 in let b = g.y1 in omega (arith, ints)
    upright_apart p q h g (inr (e, f)) = let w = good.high in let a = h.y2 in let b = g.y1 in omega (arith, ints)

    upright_law : (on_ends on_gate on_bulk : List Rect) (loose : Bool) (f : GateForm) → IsPlainForm r Down Up Left Right on_ends on_gate on_bulk loose f → IsGood (sheets_of ends on_ends on_gate on_bulk loose) (in_set (r ∷ [])) f
    upright_law on_ends on_gate on_bulk loose f h =
        let some = strip_some r good Left in let w = good.high in
        two_ends (beyond Down r) (beyond Up r) (beyond_rect Down r good) (beyond_rect Up r good) upright_apart (r ∷ []) ends on_ends on_gate on_bulk loose f upright_sides
        (upright_border r good ends f.twice_w f.twice_l below_taken above_taken left_free right_free h.wide h.long) (inl (omega (arith, ints))) (omega (arith, some, h.long)) h.source h.drain
        h.on.gate_on h.on.source_on h.on.drain_on h.on.bulk_on

pub level_good : (one r other : Rect) (on_ends on_gate on_bulk : List Rect) (loose : Bool) (f : GateForm) → IsRect one → IsRect r → IsRect other → is_level one r other ≡ true
    → IsPlainForm r Left Right Down Up on_ends on_gate on_bulk loose f → IsGood (sheets_of (one ∷ (other ∷ [])) on_ends on_gate on_bulk loose) (in_set (r ∷ [])) f
level_good one r other on_ends on_gate on_bulk loose f a b c e h =
    let p = and_parts (is_left one r) (is_left r other) e in
    level_law one r other a b c (left_from one r p.0) (left_from r other p.1) on_ends on_gate on_bulk loose f h

pub upright_good : (one r other : Rect) (on_ends on_gate on_bulk : List Rect) (loose : Bool) (f : GateForm) → IsRect one → IsRect r → IsRect other → is_upright one r other ≡ true
    → IsPlainForm r Down Up Left Right on_ends on_gate on_bulk loose f → IsGood (sheets_of (one ∷ (other ∷ [])) on_ends on_gate on_bulk loose) (in_set (r ∷ [])) f
upright_good one r other on_ends on_gate on_bulk loose f a b c e h =
    let p = and_parts (is_under one r) (is_under r other) e in
    upright_law one r other a b c (under_from one r p.0) (under_from r other p.1) on_ends on_gate on_bulk loose f h

one_of : (l : List Rect) (d : Rect) → length l ≡ 1 → l ≡ slice_index_or l 0 d ∷ []
one_of [] d e = absurd (omega (arith, e))
one_of (r ∷ []) d e = refl
one_of (r ∷ (s ∷ l)) d e = absurd (omega (arith, e))

two_of : (l : List Rect) (d : Rect) → length l ≡ 2 → l ≡ slice_index_or l 0 d ∷ (slice_index_or l 1 d ∷ [])
two_of [] d e = absurd (omega (arith, e))
two_of (r ∷ []) d e = absurd (omega (arith, e))
two_of (r ∷ (s ∷ [])) d e = refl
two_of (r ∷ (s ∷ (t ∷ l))) d e = absurd (omega (arith, e))

-- what is found of lists of one and of two rectangles
module _ (part ends rects others on_ends on_gate on_bulk : List Rect) (loose : Bool) (d : Rect) (is_part : rects ≡ part) (is_ends : others ≡ ends) (good_part : All IsRect part) (good_ends : All IsRect ends)
    (one : length rects ≡ 1) (two : length others ≡ 2) where
  abbrev r : Rect
  r = slice_index_or rects 0 d

  abbrev a : Rect
  a = slice_index_or others 0 d

  abbrev b : Rect
  b = slice_index_or others 1 d

  good_r : IsRect r
  good_r = (subst (λ (l : List Rect). All IsRect l) (sym is_part) good_part) 0 d (omega (arith, one))

  good_a : IsRect a
  good_a = (subst (λ (l : List Rect). All IsRect l) (sym is_ends) good_ends) 0 d (omega (arith, two))

  good_b : IsRect b
  good_b = (subst (λ (l : List Rect). All IsRect l) (sym is_ends) good_ends) 1 d (omega (arith, two))

  so : (f : GateForm) → IsGood (sheets_of (a ∷ (b ∷ [])) on_ends on_gate on_bulk loose) (in_set (r ∷ [])) f → IsGood (sheets_of ends on_ends on_gate on_bulk loose) (in_set part) f
  so f h =
      let p : r ∷ [] ≡ part = sym (one_of rects d one) ∙ is_part in
      let q : a ∷ (b ∷ []) ≡ ends = sym (two_of others d two) ∙ is_ends in
      subst (λ (l : List Rect). IsGood (sheets_of ends on_ends on_gate on_bulk loose) (in_set l) f) p
      (subst (λ (l : List Rect). IsGood (sheets_of l on_ends on_gate on_bulk loose) (in_set (r ∷ [])) f) q h)

  pub level_form : (res : Result (Option GateForm) AllocError) → is_level a r b ≡ true → IfOk res (λ o. IfSome o (IsPlainForm r Left Right Down Up on_ends on_gate on_bulk loose))
      → IfOk res (λ o. IfSome o (IsGood (sheets_of ends on_ends on_gate on_bulk loose) (in_set part)))
  level_form (Ok None) level h = h
  level_form (Ok (Some f)) level h = so f (level_good a r b on_ends on_gate on_bulk loose f good_a good_r good_b level h)
  level_form (Err e) level h = h

  pub upright_form : (res : Result (Option GateForm) AllocError) → is_upright a r b ≡ true → IfOk res (λ o. IfSome o (IsPlainForm r Down Up Left Right on_ends on_gate on_bulk loose))
      → IfOk res (λ o. IfSome o (IsGood (sheets_of ends on_ends on_gate on_bulk loose) (in_set part)))
  upright_form (Ok None) upright h = h
  upright_form (Ok (Some f)) upright h = so f (upright_good a r b on_ends on_gate on_bulk loose f good_a good_r good_b upright h)
  upright_form (Err e) upright h = h
