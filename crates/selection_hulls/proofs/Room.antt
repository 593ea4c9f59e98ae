-- Where the drawn hulls leave room, so do those with selections.
use Rattle.std.proofs.Common.{◌≡◌, ◌⊎◌, inl, inr, ℕ, suc, ◌+◌, ◌*◌, ◌<◌, ◌≤◌, ◌^◌, ℤ, pos, ◌+ℤ◌, ◌-ℤ◌, ◌≤ℤ◌, ◌<ℤ◌, min, List, Option, Some, None, length, refl, ◌∙◌, ap, arith}
use Rattle.std.proofs.lemmas.Bool.{cases_lt}
use Rattle.std.proofs.lemmas.Int.{ints}
use Rattle.std.proofs.lemmas.Option.{slice_get_within}
use Rattle.std.proofs.Math.Nat.{min-eq_left, min_comm}
use Rattle.geo_base.specs.Near.{IsWithin}
use Rattle.geo_base.specs.Rects.{grown}
use Rattle.geo_base.specs.declared.shapes.Point.{Point}
use Rattle.geo_base.specs.declared.shapes.Rect.{Rect}
use Rattle.geo_base.specs.declared.shapes.Square.{Square}
use Rattle.rect_sets.specs.Rects.{CanonicalLaw}
use Rattle.flat_layout.specs.Hull.{IsHullOf}
use Rattle.flat_layout.specs.Plane.{IsCorner}
use Rattle.flat_layout.specs.declared.way.Way.TheVariants.{Disturbed}
use Rattle.cell_graph.specs.Drafts.{IsLink}
use Rattle.cell_graph.specs.Grown.{IsInGrown}
use Rattle.cell_graph.specs.Linked.{IsPointWithin, IsRectWithin, IsSound, Linked, cell_at, hull_of, keeping, plain}
use Rattle.cell_graph.specs.declared.cells.CellPart.{CellPart}
use Rattle.cell_graph.specs.declared.drafts.CellDraft.{CellDraft}
use Rattle.cell_graph.specs.declared.drafts.LinkFault.TheVariants as fault
use Rattle.cell_graph.proofs.Bridge.{has_in}
use Rattle.cell_graph.proofs.Ways.{sound_kept}
use Rattle.depth_designs.specs.Stages.{IsFarBy, stages_by}
use Rattle.rule_stages.specs.Stages.{at_depth, from_depth}
use Rattle.rule_text.specs.Reaches.{MOST_REACH}
use Rattle.rule_text.specs.Rules.{Rules}
use Rattle.rule_text.specs.Sound.{IsSound as AreSound}
use Rattle.select_laws.specs.Staged.{Stage}
use Rattle.staged_layouts.specs.Staged.{IsStagedDesign}
use Rattle.selection_hulls.specs.Near.{HasRoom, RoomLaw, selects_reach}
use Rattle.selection_hulls.proofs.Counting.{are_short, few_stages}
use Rattle.selection_hulls.proofs.Near.{drawn_held, staged_held}
use Rattle.selection_hulls.proofs.Points.{hull_point}

-- so many selections reach no further than is asked for, or further than any hull leaves room for
reaches : (r : Rules) (n k : ℕ) → n ≤ length r.selects → k ≡ n * MOST_REACH → (k ≤ selects_reach r) ⊎ (selects_reach r ≡ 83886080000)
reaches r n k le is = elim (cases_lt (2 ^ 23) (length r.selects)) [
  | inl many ↦
      let all : min (length r.selects) (2 ^ 23) ≡ 2 ^ 23 = min_comm (length r.selects) (2 ^ 23) ∙ min-eq_left (omega (arith, many)) in
      inr (ap (λ i. i * MOST_REACH) all)
  | inr few ↦
      let all : min (length r.selects) (2 ^ 23) ≡ length r.selects = min-eq_left few in
      inl (let same : selects_reach r ≡ length r.selects * MOST_REACH = ap (λ i. i * MOST_REACH) all in omega (arith, same, le, is))
]

-- a side of a rectangle is far from one of a square within, if that is
module _ (r : Rules) (d : Linked) (sound : IsSound d) (k : ℕ) (reach : (k ≤ selects_reach r) ⊎ (selects_reach r ≡ 83886080000)) where
  point_within : (h : Rect) (q : Square) (p : Point) → h.x1 <ℤ h.x2 → IsInGrown k (Some h) q → IsCorner p q → IsRectWithin (2 ^ 36) (grown (selects_reach r) h) → IsPointWithin (2 ^ 36) p
  point_within h q p wide held corner room =
      let i = has_in (grown k h) q held in let i0 = i.0 in let i1 = i.1 in let i2 = i.2 in let i3 = i.3 in
      let a = room.x1.low in let b = room.x2.high in let c = room.y1.low in let e = room.y2.high in
      elim reach [
        | inl le ↦ record { x = range h.x1 h.x2 q.x p.x le a b i0 i1 corner.x; y = range h.y1 h.y2 q.y p.y le c e i2 i3 corner.y }
        | inr far ↦ absurd (none h.x1 h.x2 far wide a b)
      ]
    where
      range : (x1 x2 x y : ℤ) → k ≤ selects_reach r → (pos 0 -ℤ pos (2 ^ 36)) ≤ℤ (x1 -ℤ pos (selects_reach r)) → (x2 +ℤ pos (selects_reach r)) ≤ℤ pos (2 ^ 36) → (x1 -ℤ pos k) ≤ℤ x → x <ℤ (x2 +ℤ pos k) → (y ≡ x) ⊎ (y ≡ x +ℤ pos 1)
          → IsWithin (2 ^ 36) y
      range x1 x2 x y le a b low high (inl e) = record { low = omega (arith, ints); high = omega (arith, ints) }
      range x1 x2 x y le a b low high (inr e) = record { low = omega (arith, ints); high = omega (arith, ints) }

      none : (x1 x2 : ℤ) → selects_reach r ≡ 83886080000 → x1 <ℤ x2 → (pos 0 -ℤ pos (2 ^ 36)) ≤ℤ (x1 -ℤ pos (selects_reach r)) → (x2 +ℤ pos (selects_reach r)) ≤ℤ pos (2 ^ 36) → ⊥
      none x1 x2 far wide a b = omega (arith, ints)

  -- a corner of a square of a grown hull isn't out of range
  near_hull : HasRoom r d → (i : ℕ) (q : Square) (p : Point) → IsInGrown k (hull_of (cell_at d i)) q → IsCorner p q → (IsPointWithin (2 ^ 36) p → ⊥) → ⊥
  near_hull room i q p held corner far = by (hull_of (cell_at d i)) refl (sound.hulls.each i) held
    where
      there : (o : Option CellPart) (hull : Rect) → cell_at d i ≡ o → hull_of o ≡ Some hull → i < length d.cells
      there None hull e f = let g : None ≡ Some hull = f in absurd (let z : ⊥ = cc in z)
      there (Some c) hull e f = slice_get_within d.cells i c e

      by : (o : Option Rect) → hull_of (cell_at d i) ≡ o → IsHullOf (plain d) i o → IsInGrown k o q → ⊥
      by None e is held = held
      by (Some hull) e is held = room i (there (cell_at d i) hull refl e) (record { hull = hull; is = is; far = λ w. far (point_within hull q p is.wide held corner w) })

-- the selections of a depth bring no hull out of range
module _ (rects : CanonicalLaw) (r : Rules) (rules : AreSound r) (cells : List CellDraft) (top : Option (List ℕ)) (d : Linked) (sound : IsSound d) (link : IsLink cells top d) (room : HasRoom r d) (count : ℕ) (m : Linked)
    (staged : IsStagedDesign (stages_by r (from_depth r 1 count)) (keeping Disturbed d) m) (name : List ℕ) (far : IsFarBy r m (at_depth r (suc count)) (fault.CoordinateRange name)) where
  abbrev before : List Stage
  before = stages_by r (from_depth r 1 count)

  abbrev here : List Stage
  here = stages_by r (at_depth r (suc count))

  no_point : (n k : ℕ) → n ≡ length before * MOST_REACH → k ≡ (length before + length here) * MOST_REACH → ⊥
  no_point n k is_n is_k =
      let e = keeping Disturbed d in
      let good = sound_kept Disturbed d sound in
      let linked : IsLink cells top e = record { sound = link.sound; near = link.near; count = link.count; each = link.each; tops = link.tops; order = link.order } in
      let held = staged_held e good 0 n before (plain e) (plain m) (omega (arith, is_n)) (drawn_held e good) (are_short r (from_depth r 1 count) rules) staged.staged in
      let out = far.far in
      let point = out.2.far in
      elim (hull_point e good rects cells top linked n k (omega (arith, is_n, is_k)) before m staged held here far.further far.layers far.found far.fresh (are_short r (at_depth r (suc count)) rules)
      (λ j s at. (let lt = slice_get_within here j s at in omega (arith, is_n, is_k, lt))) out.0 out.1 point.1.0 out.2.cell point.0 point.1.1) [
        | inl old ↦ link.near out.2.cell (point.0, (point.1.0, old), point.2)
        | inr close ↦ near_hull r d sound k (reaches r (length before + length here) k (few_stages r count) is_k) room out.2.cell close.square point.0 close.held close.corner point.2
      ]

  no_stage : ⊥
  no_stage = no_point (length before * MOST_REACH) ((length before + length here) * MOST_REACH) refl refl

pub room_law : CanonicalLaw → RoomLaw
room_law rects r cells top d (fault.CoordinateRange name) rules link sound room h =
    absurd (no_stage rects r rules cells top d sound link room h.count h.design h.staged name h.far)
room_law rects r cells top d fault.TooManyCells rules link sound room h = h
room_law rects r cells top d (fault.DuplicateCell name) rules link sound room h = h
room_law rects r cells top d (fault.NoSuchCell name) rules link sound room h = h
room_law rects r cells top d (fault.Cycle name) rules link sound room h = h
room_law rects r cells top d (fault.TooDeep name) rules link sound room h = h
room_law rects r cells top d fault.NoTop rules link sound room h = h
room_law rects r cells top d (fault.TopUnclear a b) rules link sound room h = h
room_law rects r cells top d fault.NoMemory rules link sound room h = h
