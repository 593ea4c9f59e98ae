-- Whether what is close is free in placed cells, visit by visit.
use Rattle.std.proofs.Common.{◌≡◌, ◌↔◌, inl, inr, ℕ, ◌+◌, ◌<◌, ◌^◌, Bool, true, false, not, ◌&&◌, List, [], ◌∷◌, Option, None, Some, slice_index_or, length, sym, ◌∙◌, ap, subst, arith}
use Rattle.base_laws.proofs.Items.{one_entry}
use Rattle.std.proofs.lemmas.Bool.{and_parts, and_from, cases_Bool}
use Rattle.std.specs.List.{All}
use Rattle.geo_base.specs.Motions.{moved_square}
use Rattle.geo_base.specs.Rects.{has, grown}
use Rattle.geo_base.specs.declared.motion.Motion.{Motion}
use Rattle.geo_base.specs.declared.shapes.Rect.{Rect}
use Rattle.geo_base.specs.declared.shapes.Square.{Square}
use Rattle.rect_sets.specs.Rects.{covers}
use Rattle.rect_sets.specs.Rects.{IsCanonical}
use Rattle.rect_sets.proofs.Unique.{listed_get, rect_of}
use Rattle.cell_graph.specs.Grown.{IsInGrown}
use Rattle.cell_graph.specs.Linked.{Linked, IsFrame, IsRectWithin, cell_at, hull_of, motion_at}
use Rattle.cell_context.specs.declared.arrays.Visit.{Visit}
use Rattle.cell_context.specs.Over.{IsVisit, AreVisited}
use Rattle.cell_context.specs.Visits.{IsVisited}
use Rattle.cell_context.proofs.Gathering.{some_at}
use Rattle.cell_context.proofs.Visiting.{inside_from, within_inside, wider_rect}
use Rattle.deep_tables.specs.declared.zones.CellZones.{CellZones}
use Rattle.gate_shapes.specs.Sets.{in_set}
use Rattle.gate_phase.specs.Below.{IsFree, IsFreeElement, IsFreeIn}
use Rattle.deep_tables.specs.Zones.{lone_of}
use Rattle.gate_phase.specs.Close.{AreApart, AreOpen, HasOpen, HasOpenBelow, IsMine}
use Rattle.gate_phase.proofs.Keeping.{in_one, listed_has, low_in, low_square, one_window}

not_true : (b : Bool) → not b ≡ true → b ≡ true → ⊥
not_true true e f = let g : false ≡ true = e in let z : ⊥ = cc in z
not_true false e f = let z : ⊥ = cc in z

module _ (n : ℕ) (close there outside zone : List Rect) (m : Motion) (frame : Rect) (pulled : (q : Square) → covers there q ≡ covers close (moved_square m q)) (cut : (q : Square) → covers outside q ≡ (covers there q && not (covers (frame ∷ []) q))) where
  -- a square outside the frame isn't free
  pub not_free : (q : Square) → in_set outside q → IsFree n close m frame zone → ⊥
  not_free q e free =
      let on = sym (cut q) ∙ e in
      let inside = free q (sym (pulled q) ∙ (and_parts (covers there q) (not (covers (frame ∷ []) q)) on).0) in
      not_true (covers (frame ∷ []) q) ((and_parts (covers there q) (not (covers (frame ∷ []) q)) on).1) (one_window frame q inside.0)

  in_frame : ((q : Square) → in_set outside q → ⊥) → (q : Square) → covers there q ≡ true → has frame q ≡ true
  in_frame none q e = elim (cases_Bool (covers (frame ∷ []) q)) [
    | inl f ↦ in_one frame q f
    | inr f ↦ absurd (none q (cut q ∙ and_from (covers there q) (not (covers (frame ∷ []) q)) e (ap not f)))
  ]

  -- where all lies in it, its rectangles are near
  pub there_near : ((q : Square) → in_set outside q → ⊥) → IsFrame frame → IsCanonical there → All (IsRectWithin (2 ^ 39)) there
  there_near none is good = λ k r lt.
      let x = slice_index_or there k r in
      let l = listed_get there k r lt in
      let some = rect_of (covers there) x ((good.each x).0 l) in
      within_inside (2 ^ 39) x frame some (inside_from x frame some (λ q e. in_frame none q (listed_has there x q l e))) (wider_rect (2 ^ 37) (2 ^ 39) frame (omega arith) is.near)

  -- where all lies in it, only the zone counts
  pub free_told : ((q : Square) → in_set outside q → ⊥) → (b : Bool) → (b ≡ true) ↔ AreApart n there zone → (b ≡ true) ↔ IsFree n close m frame zone
  free_told none b told = (
    (λ e q inside. let here = pulled q ∙ inside in (in_frame none q here, told.0 e q here)),
    (λ free. told.1 (λ q here. (free q (sym (pulled q) ∙ here)).1)),
  )

-- and so in a cell with this hull and this zone
module _ (n : ℕ) (d : Linked) (z : List (Option CellZones)) (device : ℕ) (part close : List Rect) (cell : ℕ) (m : Motion) (hull frame : Rect) (zone : List Rect) (hull_is : hull_of (cell_at d cell) ≡ Some hull) (frame_is : frame ≡ grown (n + 1) hull) (zone_is : AreOpen z cell device zone) where
  free_of : IsFreeIn n d z device part close cell m → IsFree n close m frame zone
  free_of h =
      let one = one_entry _ h.hull hull h.hull_is hull_is in
      let same = one_entry _ h.zone zone h.zone_is zone_is in
      subst (λ (f : Rect). IsFree n close m f zone) (ap (λ (r : Rect). grown (n + 1) r) one ∙ sym frame_is) (subst (λ l. IsFree n close m (grown (n + 1) h.hull) l) same h.free)

  pub not_free_in : (b : Bool) → (b ≡ true) ↔ IsFree n close m frame zone → b ≡ false → (false ≡ true) ↔ IsFreeIn n d z device part close cell m
  not_free_in b told off = ((λ e. absurd (let y : ⊥ = cc in y)), (λ h. sym off ∙ told.1 (free_of h)))

  pub free_in : (there : List Rect) (others : Option (List Rect)) (b : Bool) → IsFree n close m frame zone → ((q : Square) → covers there q ≡ covers part (moved_square m q)) → others ≡ lone_of z cell device → (b ≡ true) ↔ IsMine others (in_set there)
      → (b ≡ true) ↔ IsFreeIn n d z device part close cell m
  free_in there others b free pulled others_is told = (
    (λ e.
        let s : IsMine (lone_of z cell device) (in_set there) = subst (λ o. IsMine o (in_set there)) others_is (told.0 e) in
        record {
          hull = hull;
          hull_is = hull_is;
          zone = zone;
          zone_is = zone_is;
          free = subst (λ (f : Rect). IsFree n close m f zone) frame_is free;
          mine = record { square = s.square; has = sym (pulled s.square) ∙ s.has; alone = s.alone };
        }),
    (λ h. told.1 (subst (λ o. IsMine o (in_set there)) (sym others_is) (record { square = h.mine.square; has = pulled h.mine.square ∙ h.mine.has; alone = h.mine.alone }))),
  )

-- a visit's cell has its entry
pub visit_open : (n : ℕ) (d : Linked) (z : List (Option CellZones)) (cell device : ℕ) (w : Rect) (v : Visit) → HasOpenBelow d z cell device → IsVisit n d cell None w v → HasOpen z v.cell device
visit_open n d z cell device w v have h = subst (λ c. HasOpen z c device) (sym h.cell_is) (have h.index h.from h.step.there)

-- a visit where all is free is such an element
pub free_visit : (n : ℕ) (d : Linked) (z : List (Option CellZones)) (cell device : ℕ) (part close : List Rect) (w : Rect) (v : Visit) → IsVisit n d cell None w v → IsFreeIn n d z device part close v.cell v.motion → IsFreeElement n d z cell device part close w
free_visit n d z cell device part close w v h free =
    let s = low_square v.window in
    let inside = low_in v.window h.near.some in
    record {
      index = h.index;
      row = h.row;
      column = h.column;
      from = h.from;
      step = h.step;
      square = s;
      held = subst (λ c. IsInGrown n (hull_of (cell_at d c)) s) h.cell_is (h.held s inside);
      met = subst (λ (m : Motion). has w (moved_square m s) ≡ true) h.motion_is (h.has s inside);
      free = subst (λ (m : Motion). IsFreeIn n d z device part close h.from.cell m) h.motion_is (subst (λ c. IsFreeIn n d z device part close c v.motion) h.cell_is free);
    }

-- and where no visit is, no element is
pub no_visit_free : (n : ℕ) (d : Linked) (z : List (Option CellZones)) (cell device : ℕ) (part close : List Rect) (w : Rect) (vs : List Visit) (none : Visit) → AreVisited n d cell None w vs
    → ((k : ℕ) → k < length vs → IsFreeIn n d z device part close (slice_index_or vs k none).cell (slice_index_or vs k none).motion → ⊥) → IsFreeElement n d z cell device part close w → ⊥
no_visit_free n d z cell device part close w vs none found never f =
    let s = some_at (IsVisited f.from f.row f.column f.square) vs none (found f.index f.row f.column f.from f.square f.step (λ e. let g : None ≡ Some f.index = e in let z : ⊥ = cc in z) f.held f.met) in
    never s.0 s.1 (subst (λ (m : Motion). IsFreeIn n d z device part close (slice_index_or vs s.0 none).cell m) (sym s.2.motion) (subst (λ c. IsFreeIn n d z device part close c (motion_at f.from f.row f.column)) (sym s.2.cell) f.free))
