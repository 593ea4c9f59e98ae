-- The squares along the sides of one rectangle, and its border where ends lie along two of them.
use Rattle.std.proofs.Common.{◌≡◌, ◌⊎◌, inl, inr, ℕ, zero, suc, ◌+◌, ◌*◌, ◌<◌, ℤ, ◌-ℤ◌, ◌<ℤ◌, unsigned_abs, List, [], ◌∷◌, Bool, true, false, ◌&&◌, not, refl, sym, subst, arith}
use Rattle.base_laws.proofs.Tests.{same_truth}
use Rattle.std.proofs.lemmas.Int.{ints, by_lt_z}
use Rattle.std.proofs.lemmas.Bool.{false≢true, or_left, or_right, and_from, or_cases, and_parts}
use Rattle.geo_base.specs.Rects.{has, IsRect}
use Rattle.geo_base.specs.declared.shapes.Rect.{Rect}
use Rattle.geo_base.specs.declared.shapes.Square.{Square}
use Rattle.rect_sets.specs.Rects.{covers, IsListed}
use Rattle.rect_sets.proofs.Splitting.{IsInside, inside_from}
use Rattle.flat_layout.specs.Parts.{Counts, IsCloseTo, InRingOf}
use Rattle.gate_shapes.specs.Borders.{behind, grown_rect, IsFlank, IsBorder}
use Rattle.gate_shapes.specs.Plain.{beyond}
use Rattle.gate_shapes.specs.Sets.{in_set, area_of}
use Rattle.gate_shapes.specs.declared.border.Side.{Side}
use Rattle.gate_shapes.specs.declared.border.Side.TheVariants.{Right, Up, Left, Down}
use Rattle.gate_shapes.proofs.Areas.{rect_count, to_abs, inside_has}
use Rattle.gate_shapes.proofs.Borders.{flank_law, border_law, behind_edge, not_true, from_not}
use Rattle.gate_shapes.proofs.Counting.{counts_none, counts_same}
use Rattle.gate_shapes.proofs.Groups.{beside_around}
use Rattle.gate_shapes.proofs.Rings.{close_same}

pub one_has : (r : Rect) (q : Square) → in_set (r ∷ []) q → IsInside r q
one_has r q e = elim (or_cases (has r q) false e) [ inl h ↦ inside_from r q h | inr h ↦ absurd (false≢true h) ]

pub has_one : (r : Rect) (q : Square) → IsInside r q → in_set (r ∷ []) q
has_one r q h = or_left (has r q) false (inside_has r q h)

pub two_have : (r s : Rect) (q : Square) → in_set (r ∷ (s ∷ [])) q → IsInside r q ⊎ IsInside s q
two_have r s q e = elim (or_cases (has r q) (covers (s ∷ []) q) e) [ inl h ↦ inl (inside_from r q h) | inr h ↦ inr (one_has s q h) ]

pub has_first : (r s : Rect) (q : Square) → IsInside r q → in_set (r ∷ (s ∷ [])) q
has_first r s q h = or_left (has r q) (covers (s ∷ []) q) (inside_has r q h)

pub has_second : (r s : Rect) (q : Square) → IsInside s q → in_set (r ∷ (s ∷ [])) q
has_second r s q h = or_right (has r q) (covers (s ∷ []) q) (has_one s q h)

pub beyond_rect : (side : Side) (r : Rect) → IsRect r → IsRect (beyond side r)
beyond_rect Right r h = let w = h.wide in let t = h.high in record { wide = omega (arith, ints); high = t }
beyond_rect Up r h = let w = h.wide in let t = h.high in record { wide = w; high = omega (arith, ints) }
beyond_rect Left r h = let w = h.wide in let t = h.high in record { wide = omega (arith, ints); high = t }
beyond_rect Down r h = let w = h.wide in let t = h.high in record { wide = w; high = omega (arith, ints) }

-- from a square beyond a side one step leads back into the rectangle
step_in : (side : Side) (r : Rect) (q : Square) → IsRect r → IsInside (beyond side r) q → IsInside r (behind side q)
step_in Right r q g h = let w = g.wide in let a = h.x1 in let b = h.x2 in record { x1 = omega (arith, ints); x2 = omega (arith, ints); y1 = omega (arith, ints, h.y1); y2 = omega (arith, ints, h.y2) }
step_in Up r q g h = let w = g.high in let a = h.y1 in let b = h.y2 in record { x1 = omega (arith, ints, h.x1); x2 = omega (arith, ints, h.x2); y1 = omega (arith, ints); y2 = omega (arith, ints) }
step_in Left r q g h = let w = g.wide in let a = h.x1 in let b = h.x2 in record { x1 = omega (arith, ints); x2 = omega (arith, ints); y1 = omega (arith, ints, h.y1); y2 = omega (arith, ints, h.y2) }
step_in Down r q g h = let w = g.high in let a = h.y1 in let b = h.y2 in record { x1 = omega (arith, ints, h.x1); x2 = omega (arith, ints, h.x2); y1 = omega (arith, ints); y2 = omega (arith, ints) }

stays_out : (side : Side) (r : Rect) (q : Square) → IsInside (beyond side r) q → IsInside r q → ⊥
stays_out Right r q h g = omega (arith, ints, h.x1, g.x2)
stays_out Up r q h g = omega (arith, ints, h.y1, g.y2)
stays_out Left r q h g = omega (arith, ints, h.x2, g.x1)
stays_out Down r q h g = omega (arith, ints, h.y2, g.y1)

-- and no other square is a step away on that side
step_out : (side : Side) (r : Rect) (q : Square) → IsInside r (behind side q) → (IsInside r q → ⊥) → IsInside (beyond side r) q
step_out Right r q h not =
    let a = h.x1 in let b = h.x2 in let c = h.y1 in let d = h.y2 in
    by_lt_z q.x r.x2
    (λ lt. absurd (not (record { x1 = omega (arith, ints); x2 = lt; y1 = omega (arith, ints); y2 = omega (arith, ints) })))
    (λ le. record { x1 = le; x2 = omega (arith, ints); y1 = omega (arith, ints); y2 = omega (arith, ints) })
step_out Up r q h not =
    let a = h.x1 in let b = h.x2 in let c = h.y1 in let d = h.y2 in
    by_lt_z q.y r.y2
    (λ lt. absurd (not (record { x1 = omega (arith, ints); x2 = omega (arith, ints); y1 = omega (arith, ints); y2 = lt })))
    (λ le. record { x1 = omega (arith, ints); x2 = omega (arith, ints); y1 = le; y2 = omega (arith, ints) })
step_out Left r q h not =
    let a = h.x1 in let b = h.x2 in let c = h.y1 in let d = h.y2 in
    by_lt_z q.x r.x1
    (λ lt. record { x1 = omega (arith, ints); x2 = lt; y1 = omega (arith, ints); y2 = omega (arith, ints) })
    (λ le. absurd (not (record { x1 = le; x2 = omega (arith, ints); y1 = omega (arith, ints); y2 = omega (arith, ints) })))
step_out Down r q h not =
    let a = h.x1 in let b = h.x2 in let c = h.y1 in let d = h.y2 in
    by_lt_z q.y r.y1
    (λ lt. record { x1 = omega (arith, ints); x2 = omega (arith, ints); y1 = omega (arith, ints); y2 = lt })
    (λ le. absurd (not (record { x1 = omega (arith, ints); x2 = omega (arith, ints); y1 = le; y2 = omega (arith, ints) })))

abs_some : (a b : ℤ) → a <ℤ b → 0 < unsigned_abs (b -ℤ a)
abs_some a b h = let e = to_abs a b h in omega (arith, ints, e)

product_some : (a b : ℕ) → 0 < a → 0 < b → 0 < a * b
product_some zero b h g = absurd (omega (arith, h))
product_some (suc a) zero h g = absurd (omega (arith, g))
product_some (suc a) (suc b) h g = omega arith

module _ (r : Rect) (good : IsRect r) where
  abbrev part : List Rect
  part = r ∷ []

  beyond_is : (side : Side) (q : Square) → covers (beyond side r ∷ []) q ≡ (covers part (behind side q) && not (covers part q))
  beyond_is side q =
      same_truth (covers (beyond side r ∷ []) q) (covers part (behind side q) && not (covers part q))
      (λ e. let h = one_has (beyond side r) q e in
      and_from (covers part (behind side q)) (not (covers part q)) (has_one r (behind side q) (step_in side r q good h)) (from_not (covers part q) (λ f. stays_out side r q h (one_has r q f))))
      (λ e. let p = and_parts (covers part (behind side q)) (not (covers part q)) e in
      has_one (beyond side r) q (step_out side r q (one_has r (behind side q) p.0) (λ h. not_true (covers part q) p.1 (has_one r q h))))

  -- squares beyond a side lie in the ring
  pub in_ring : (side : Side) (q : Square) → IsInside (beyond side r) q → InRingOf (in_set part) q
  in_ring side q h = record {
    close = record { square = behind side q; in_part = has_one r (behind side q) (step_in side r q good h); around = beside_around (behind side q) q (behind_edge side q) };
    outside = λ e. stays_out side r q h (one_has r q e);
  }

  only_rect : (s : Rect) → IsListed s part → IsRect s
  only_rect s (inl e) = subst (λ (t : Rect). IsRect t) (sym e) good
  only_rect s (inr l) = absurd l

  pub near_part : (q : Square) → IsCloseTo (in_set part) q → IsInside (grown_rect r) q
  near_part q h = one_has (grown_rect r) q ((close_same part only_rect q).1 h)

  strip_count : (side : Side) → Counts (in_set (beyond side r ∷ [])) (area_of (beyond side r))
  strip_count side =
      counts_same (λ q. has (beyond side r) q ≡ true) (in_set (beyond side r ∷ [])) (area_of (beyond side r))
      (λ q. ((λ h. or_left (has (beyond side r) q) false h), (λ e. inside_has (beyond side r) q (one_has (beyond side r) q e))))
      (rect_count (beyond side r) (beyond_rect side r good))

  pub strip_some : (side : Side) → 0 < area_of (beyond side r)
  strip_some side =
      let h = beyond_rect side r good in
      let w = abs_some (beyond side r).x1 (beyond side r).x2 h.wide in let t = abs_some (beyond side r).y1 (beyond side r).y2 h.high in
      product_some (unsigned_abs ((beyond side r).x2 -ℤ (beyond side r).x1)) (unsigned_abs ((beyond side r).y2 -ℤ (beyond side r).y1)) w t

  and_all : (a b : Bool) → (a ≡ true → b ≡ true) → a ≡ (a && b)
  and_all true b h = sym (h refl)
  and_all false b h = refl

  and_none : (a b : Bool) → (a ≡ true → b ≡ true → ⊥) → false ≡ (a && b)
  and_none true true h = absurd (h refl refl)
  and_none true false h = refl
  and_none false b h = refl

  not_no : (b : Bool) → b ≡ true → not b ≡ true → ⊥
  not_no b e f = not_true b f e

  no_count : Counts (in_set []) 0
  no_count = counts_none (in_set []) (λ q e. false≢true e)

  module _ (ends : List Rect) where
    -- a side with ends along all of it
    pub flank_taken : (side : Side) → ((q : Square) → IsInside (beyond side r) q → in_set ends q)
        → IsFlank part ends side (record { wide = area_of (beyond side r); long = 0; touched = beyond side r ∷ [] })
    flank_taken side all =
        flank_law side part ends (beyond side r ∷ []) (beyond side r ∷ []) [] (area_of (beyond side r)) 0 (beyond_is side)
        (λ q. and_all (covers (beyond side r ∷ []) q) (covers ends q) (λ e. all q (one_has (beyond side r) q e)))
        (λ q. and_none (covers (beyond side r ∷ []) q) (not (covers ends q)) (λ e. not_no (covers ends q) (all q (one_has (beyond side r) q e))))
        (strip_count side) no_count

    -- one with none
    pub flank_free : (side : Side) → ((q : Square) → IsInside (beyond side r) q → in_set ends q → ⊥)
        → IsFlank part ends side (record { wide = 0; long = area_of (beyond side r); touched = [] })
    flank_free side none =
        flank_law side part ends (beyond side r ∷ []) [] (beyond side r ∷ []) 0 (area_of (beyond side r)) (beyond_is side)
        (λ q. and_none (covers (beyond side r ∷ []) q) (covers ends q) (λ e. none q (one_has (beyond side r) q e)))
        (λ q. and_all (covers (beyond side r ∷ []) q) (not (covers ends q)) (λ e. from_not (covers ends q) (none q (one_has (beyond side r) q e))))
        no_count (strip_count side)

    pub level_border : (wide long : ℕ) → ((q : Square) → IsInside (beyond Left r) q → in_set ends q) → ((q : Square) → IsInside (beyond Right r) q → in_set ends q)
        → ((q : Square) → IsInside (beyond Down r) q → in_set ends q → ⊥) → ((q : Square) → IsInside (beyond Up r) q → in_set ends q → ⊥)
        → wide ≡ area_of (beyond Left r) + area_of (beyond Right r) → long ≡ area_of (beyond Down r) + area_of (beyond Up r)
        → IsBorder part ends (record { wide = wide; long = long; touched = beyond Left r ∷ (beyond Right r ∷ []) })
    level_border wide long left right down up w l =
        border_law part ends (beyond Left r ∷ (beyond Right r ∷ []))
        (record { wide = area_of (beyond Right r); long = 0; touched = beyond Right r ∷ [] })
        (record { wide = 0; long = area_of (beyond Up r); touched = [] })
        (record { wide = area_of (beyond Left r); long = 0; touched = beyond Left r ∷ [] })
        (record { wide = 0; long = area_of (beyond Down r); touched = [] })
        wide long (flank_taken Right right) (flank_free Up up) (flank_taken Left left) (flank_free Down down) (omega (arith, w)) (omega (arith, l))
        (λ q. (
          (λ e. elim (two_have (beyond Left r) (beyond Right r) q e) [ inl h ↦ inl (inr (has_one (beyond Left r) q h)) | inr h ↦ inl (inl (inl (has_one (beyond Right r) q h))) ]),
          (λ e. elim e [
            | inl f ↦ elim f [
              | inl g ↦ elim g [ inl k ↦ has_second (beyond Left r) (beyond Right r) q (one_has (beyond Right r) q k) | inr k ↦ absurd (false≢true k) ]
              | inr k ↦ has_first (beyond Left r) (beyond Right r) q (one_has (beyond Left r) q k)
            ]
            | inr k ↦ absurd (false≢true k)
          ]),
        ))

    pub upright_border : (wide long : ℕ) → ((q : Square) → IsInside (beyond Down r) q → in_set ends q) → ((q : Square) → IsInside (beyond Up r) q → in_set ends q)
        → ((q : Square) → IsInside (beyond Left r) q → in_set ends q → ⊥) → ((q : Square) → IsInside (beyond Right r) q → in_set ends q → ⊥)
        → wide ≡ area_of (beyond Down r) + area_of (beyond Up r) → long ≡ area_of (beyond Left r) + area_of (beyond Right r)
        → IsBorder part ends (record { wide = wide; long = long; touched = beyond Down r ∷ (beyond Up r ∷ []) })
    upright_border wide long down up left right w l =
        border_law part ends (beyond Down r ∷ (beyond Up r ∷ []))
        (record { wide = 0; long = area_of (beyond Right r); touched = [] })
        (record { wide = area_of (beyond Up r); long = 0; touched = beyond Up r ∷ [] })
        (record { wide = 0; long = area_of (beyond Left r); touched = [] })
        (record { wide = area_of (beyond Down r); long = 0; touched = beyond Down r ∷ [] })
        wide long (flank_free Right right) (flank_taken Up up) (flank_free Left left) (flank_taken Down down) (omega (arith, w)) (omega (arith, l))
        (λ q. (
          (λ e. elim (two_have (beyond Down r) (beyond Up r) q e) [ inl h ↦ inr (has_one (beyond Down r) q h) | inr h ↦ inl (inl (inr (has_one (beyond Up r) q h))) ]),
          (λ e. elim e [
            | inl f ↦ elim f [
              | inl g ↦ elim g [ inl k ↦ absurd (false≢true k) | inr k ↦ has_second (beyond Down r) (beyond Up r) q (one_has (beyond Up r) q k) ]
              | inr k ↦ absurd (false≢true k)
            ]
            | inr k ↦ has_first (beyond Down r) (beyond Up r) q (one_has (beyond Down r) q k)
          ]),
        ))
