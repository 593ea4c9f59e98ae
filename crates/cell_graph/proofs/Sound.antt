-- The finished cells and their order make a sound design: what the drafts name.
use Rattle.std.proofs.Common.{◌≡◌, ◌⊎◌, inl, inr, ℕ, zero, suc, ◌<◌, ◌≤◌, ◌^◌, ℤ, ◌≤ℤ◌, List, [], ◌∷◌, Option, Some, None, length, get_or, slice_get, slice_index, refl, sym, ◌∙◌, ap, subst, arith}
use Rattle.base_laws.proofs.Items.{item_at}
use Rattle.std.specs.List.{All}
use Rattle.std.proofs.lemmas.Int.{ints, clamps}
use Rattle.std.proofs.lemmas.Option.{slice_get_within, slice_get-get_or}
use Rattle.geo_base.specs.Motions.{moved_point}
use Rattle.geo_base.specs.Rects.{IsRect, moved_rect, IsInside}
use Rattle.geo_base.specs.declared.motion.Motion.{Motion}
use Rattle.geo_base.specs.declared.shapes.Point.{Point}
use Rattle.geo_base.specs.declared.shapes.Rect.{Rect}
use Rattle.geo_base.proofs.Spans.{moved_rect-IsRect}
use Rattle.flat_layout.specs.Layout as flat
use Rattle.flat_layout.specs.Layout.{Some_of}
use Rattle.plain_netlist.proofs.Members.{few}
use Rattle.plain_netlist.specs.Lists.{AreApart}
use Rattle.call_order.proofs.Closing.{apart_by, place_in}
use Rattle.std.specs.Global.{Vec}
use Rattle.cell_graph.specs.declared.cells.OwnLayer.{OwnLayer}
use Rattle.cell_graph.specs.declared.cells.RawText.{RawText}
use Rattle.cell_graph.specs.declared.cells.Place.{Place}
use Rattle.cell_graph.specs.declared.cells.CellPart.{CellPart}
use Rattle.cell_graph.specs.Linked.{IsPointWithin, linked_of, plain, motion_at, cell_at, places_at, height_at, height_of, IsHull, HoldsImage, HoldsRects, IsReference, layer_keys, HullIsSound, HasJustBelow, HaveLevels, IsSoundCell, IsOrder, IsStep}
use Rattle.cell_graph.proofs.Bridge.{step_of, placed_of}
use Rattle.cell_graph.specs.declared.bounds.Bounds.{Bounds}
use Rattle.cell_graph.specs.declared.drafts.CellDraft.{CellDraft}
use Rattle.cell_graph.specs.declared.linking.Findings.{Findings}
use Rattle.cell_graph.specs.Bounds.{range_of}
use Rattle.cell_graph.specs.Chains.{Leads, HasChain, IsHeightOf}
use Rattle.cell_graph.specs.Parts.{Part, Places}
use Rattle.cell_graph.specs.Drafts.{Refers, IsCorner, IsHullPoint, IsHullOf, IsLeastRange, IsTop, AreSound, AreAllResolved, AreParts, IsPartOf, IsLink}
use Rattle.cell_graph.specs.Sides.{Side, Left, Low, Right, High, value, side_of, Holds, Widens, AreNearIfAny, IsCornerPoint, low_corner, high_corner}
use Rattle.cell_graph.specs.Extents.{found_at, HaveArrays, IsBoundsOf, AreBounds}
use Rattle.cell_graph.specs.Ordering.{AreOrdered}
use Rattle.cell_graph.specs.Rising.{height_in, HaveHeights}
use Rattle.cell_graph.specs.Finished.{IsBoundsHull, IsMade, IsExamined, AreMade, AreReached}
use Rattle.cell_graph.proofs.Resolving.{at_too, places_refers, refers_places, leads_too}
use Rattle.cell_graph.proofs.Widening.{least_of}
use Rattle.cell_graph.proofs.Extending.{low_of, high_of}
use Rattle.cell_graph.proofs.Hulls.{element_to, among_some, image_reached, not_far}
use Rattle.cell_graph.proofs.Rounds.{cases, refers_lower, low_height, on_order, order_in, no_twice, part_refers, part_arrays, far_inside}

-- all that was found on the way
pub record IsDone (cells : List CellDraft) (parts : List Part) (hs order : List ℕ) (found : List (Option Bounds)) (top : ℕ) (kept : List ℕ) (ds : List CellPart) : Type 0 where
  pub sound : AreSound cells
  pub are : AreParts cells parts
  pub heights : HaveHeights cells hs
  pub ordered : AreOrdered hs 65 0 order
  pub bounds : AreBounds cells found
  pub reached : AreReached parts top order (length order) kept
  pub made : AreMade cells parts found hs ds
  pub keys : (i : ℕ) (c : CellDraft) → slice_get cells i ≡ Some c → AreApart (layer_keys c.layers.items)
  pub arrays : HaveArrays cells
  pub top_in : top < length cells

pub record MadeAt (cells : List CellDraft) (parts : List Part) (hs : List ℕ) (found : List (Option Bounds)) (i : ℕ) (p : CellPart) : Type 0 where
  pub draft : CellDraft
  pub part : Part
  pub there : slice_get cells i ≡ Some draft
  pub part_there : slice_get parts i ≡ Some part
  pub is : IsMade draft part.items (found_at found i) (height_in hs i) p

pub made_at : (cells : List CellDraft) (parts : List Part) (hs : List ℕ) (found : List (Option Bounds)) (ds : List CellPart) → AreParts cells parts → AreMade cells parts found hs ds
    → (i : ℕ) (p : CellPart) → slice_get ds i ≡ Some p → MadeAt cells parts hs found i p
made_at cells parts hs found ds are made i p at =
    let c = at_too ds cells i p made.count at in
    let q = at_too cells parts i c.0 (sym are.count) c.1 in
    record { draft = c.0; part = q.0; there = c.1; part_there = q.1; is = made.each i c.0 q.0 p c.1 q.1 at }

pub near_held : (b : Option Bounds) (p : Point) → AreNearIfAny b → Holds b p → IsPointWithin (2 ^ 36) p
near_held None p near h = absurd h
near_held (Some b) p n in_b =
    let a = in_b Left in let c = in_b Low in let d = in_b Right in let e = in_b High in
    let x1 = n.x1.low in let x2 = n.x2.high in let y1 = n.y1.low in let y2 = n.y2.high in
    record {
      x = record { low = omega (arith, ints); high = omega (arith, ints) };
      y = record { low = omega (arith, ints); high = omega (arith, ints) };
    }

-- the hull of bounds holds the rectangle
abbrev InHull : Option Rect → Rect → Type 0
InHull None r = ⊥
InHull (Some h) r = IsInside r h

rect_held : (b : Option Bounds) (hull : Option Rect) (r : Rect) → IsRect r → IsBoundsHull b hull → Holds b (low_of r) → Holds b (high_of r) → InHull hull r
rect_held None hull r rect is low high = absurd low
rect_held (Some x) None r rect is low high =
    let a = low Left in let c = low Low in let d = high Right in let e = high High in let w = rect.wide in let t = rect.high in
    elim is [ inl f ↦ absurd (let z : ⊥ = omega (arith, ints) in z) | inr f ↦ absurd (let z : ⊥ = omega (arith, ints) in z) ]
rect_held (Some x) (Some h) r rect is low high =
    let a = low Left in let c = low Low in let d = high Right in let e = high High in
    let in_x : IsInside r (range_of x) = record { x1 = a; y1 = c; x2 = omega (arith, ints); y2 = omega (arith, ints) } in
    subst (IsInside r) (sym is.0) in_x

own_rects_held : (hull : Option Rect) (rects : List Rect) → ((k : ℕ) (r : Rect) → slice_get rects k ≡ Some r → InHull hull r) → HoldsRects hull rects
own_rects_held None [] h = refl
own_rects_held None (r ∷ rects) h = absurd (h 0 r refl)
own_rects_held (Some g) rects h = λ k d lt. h k (get_or rects k d) (slice_get-get_or rects k d lt)

-- the image of the hull of bounds is held where those of its corners are
image_inside : (outer inner : Option Bounds) (h g : Option Rect) (m : Motion) → IsBoundsHull outer h → IsBoundsHull inner g
    → ((c : Point) → IsCornerPoint inner c → Holds outer (moved_point m c)) → HoldsImage h g m
image_inside outer inner h None m is_h is_g corners = tt
image_inside outer None h (Some r) m is_h is_g corners = let f : Some r ≡ None = is_g in absurd (let z : ⊥ = cc in z)
image_inside None (Some b) h (Some r) m is_h is_g corners = absurd (corners (low_corner b) (inl refl))
image_inside (Some x) (Some b) None (Some r) m is_h is_g corners =
    let rect : IsRect r = subst IsRect (sym is_g.0) (record { wide = is_g.1; high = is_g.2 }) in
    let moved = moved_rect-IsRect m (range_of b) (subst IsRect is_g.0 rect) in
    let low = corners (low_corner b) (inl refl) in
    let high = corners (high_corner b) (inr refl) in
    let a = low Left in let a2 = low Low in let a3 = low Right in let a4 = low High in
    let b1 = high Left in let b2 = high Low in let b3 = high Right in let b4 = high High in
    let w = moved.wide in let t = moved.high in
    elim is_h [ inl f ↦ absurd (let z : ⊥ = omega (arith, ints, clamps) in z) | inr f ↦ absurd (let z : ⊥ = omega (arith, ints, clamps) in z) ]
image_inside (Some x) (Some b) (Some s) (Some r) m is_h is_g corners =
    let low = corners (low_corner b) (inl refl) in
    let high = corners (high_corner b) (inr refl) in
    let a = low Left in let a2 = low Low in let a3 = low Right in let a4 = low High in
    let b1 = high Left in let b2 = high Low in let b3 = high Right in let b4 = high High in
    let inside : IsInside (moved_rect m (range_of b)) (range_of x) = record {
      x1 = omega (arith, ints, clamps);
      y1 = omega (arith, ints, clamps);
      x2 = omega (arith, ints, clamps);
      y2 = omega (arith, ints, clamps);
    } in
    subst (λ (r : Rect). IsInside (moved_rect m r) s) (sym is_g.0) (subst (IsInside (moved_rect m (range_of b))) (sym is_h.0) inside)

pub up : (a b c : ℤ) → a ≤ℤ b → b ≤ℤ c → a ≤ℤ c
up a b c e f = omega (arith, ints)

pub corner_held : (Q : Point → Type 0) (inner b : Option Bounds) (m : Motion) → Widens None Q inner → ((p : Point) → Q p → Holds b (moved_point m p))
    → (c : Point) → IsCornerPoint inner c → Holds b (moved_point m c)
corner_held Q inner None m least held c is = let r = image_reached Q inner m c Left least is in absurd (held r.0 r.1)
corner_held Q inner (Some b) m least held c is = λ s.
    let r = image_reached Q inner m c s least is in
    up (side_of s b) (value s (moved_point m r.0)) (value s (moved_point m c)) (held r.0 r.1 s) r.2

hull_sound : (b : Option Bounds) (h : Option Rect) → AreNearIfAny b → IsBoundsHull b h → HullIsSound h
hull_sound b None near is = tt
hull_sound None (Some r) near is = let f : Some r ≡ None = is in absurd (let z : ⊥ = cc in z)
hull_sound (Some b) (Some r) near is =
    subst IsHull (sym is.0) (record { some = record { wide = is.1; high = is.2 }; near = record { x1 = near.x1; y1 = near.y1; x2 = near.x2; y2 = near.y2 } })

range_order : (Q : Point → Type 0) (b : Bounds) → Widens None Q (Some b) → (b.x1 ≤ℤ b.x2) × (b.y1 ≤ℤ b.y2)
range_order Q b least = (wide, tall)
  where
    side : (s : Side) → (q : Point) × Q q × (value s q ≡ side_of s b)
    side s = elim (least.sides s b refl) [ inl f ↦ absurd f | inr f ↦ f ]

    wide : b.x1 ≤ℤ b.x2
    wide = let q = side Left in let l = q.2 in let r = least.holds q.0 q.1 Right in omega (arith, ints)

    tall : b.y1 ≤ℤ b.y2
    tall = let q = side Low in let l = q.2 in let r = least.holds q.0 q.1 High in omega (arith, ints)

flat_side : (a b : ℤ) → a ≤ℤ b → b ≤ℤ a → a ≡ b
flat_side a b le ge = omega (arith, ints)

hull_exact : (Q : Point → Type 0) (b : Option Bounds) (h : Option Rect) → Widens None Q b → IsBoundsHull b h → IsHullOf Q h
hull_exact Q None None least is = inl (λ p q. least.holds p q)
hull_exact Q None (Some r) least is = let f : Some r ≡ None = is in absurd (let z : ⊥ = cc in z)
hull_exact Q (Some b) None least is =
    let o = range_order Q b least in
    inr (range_of b, least_of Q b least, elim is [ inl f ↦ inl (flat_side b.x1 b.x2 o.0 f) | inr f ↦ inr (flat_side b.y1 b.y2 o.1 f) ])
hull_exact Q (Some b) (Some r) least is = subst (IsLeastRange Q) (sym is.0) (least_of Q b least)

-- one reference of a finished cell
reference_sound : (cells : List CellDraft) (parts : List Part) (hs order : List ℕ) (found : List (Option Bounds)) (top : ℕ) (kept : List ℕ) (ds : List CellPart) → IsDone cells parts hs order found top kept ds
    → (i : ℕ) (p : CellPart) → MadeAt cells parts hs found i p → (k : ℕ) (pl : Place) → slice_get p.places.items k ≡ Some pl → IsReference ds p pl
reference_sound cells parts hs order found top kept ds done i p m k pl at =
    let places = m.part.items in
    let all : AreAllResolved cells m.draft.refs.items places = done.are.each i m.draft m.part m.there m.part_there in
    let in_part : slice_get places k ≡ Some pl = subst (λ xs. slice_get xs k ≡ Some pl) m.is.places_are at in
    let r = part_refers cells i m.draft places k pl m.there all in_part in
    let in_i = slice_get_within cells i m.draft m.there in
    let in_j = slice_get_within cells pl.cell r.names.cell r.names.there in
    let q = item_at ds pl.cell (subst (λ n. pl.cell < n) (sym done.made.count) in_j) in
    let n = made_at cells parts hs found ds done.are done.made pl.cell q.0 q.1 in
    let lower = refers_lower cells hs done.heights i pl.cell r in
    let hp = m.is.height_is in
    let hq = n.is.height_is in
    let a = part_arrays cells i m.draft places done.arrays m.there all k pl in_part in
    let bi = found_at found i in
    let bj = found_at found pl.cell in
    let own_i = done.bounds.each i in_i in
    let own_j = done.bounds.each pl.cell in_j in
    record {
      placed = q.0;
      there = q.1;
      lower = omega arith;
      columns = a.columns;
      rows = a.rows;
      elements = λ row column in_rows in_columns.
          let e = element_to cells i m.draft places k pl row column m.there all in_part in_rows in_columns in
          let mo = motion_at pl row column in
          let o : Point = record { x = mo.dx; y = mo.dy } in
          let near = near_held bi o own_i.near (own_i.least.holds o (0, inr (inr (mo, pl.cell, e, (refl, refl))))) in
          record {
            dx = near.x;
            dy = near.y;
            image = image_inside bi bj p.hull q.0.hull mo m.is.hull_is n.is.hull_is
                (corner_held (IsHullPoint cells pl.cell) bj bi mo own_j.least (λ s (steps, by). own_i.least.holds (moved_point mo s) (suc steps, (mo, pl.cell, e, s, by, refl))));
          };
    }

-- own rectangles lie in the hull
own_sound : (cells : List CellDraft) (parts : List Part) (hs : List ℕ) (found : List (Option Bounds)) → AreBounds cells found → (i : ℕ) (p : CellPart) → MadeAt cells parts hs found i p
    → All (λ (l : OwnLayer). HoldsRects p.hull l.set) p.layers.items
own_sound cells parts hs found bounds i p m = subst (λ ls. All (λ (l : OwnLayer). HoldsRects p.hull l.set) ls) (sym (ap (λ (v : Vec OwnLayer). v.items) m.is.layers_are)) all
  where
    own : IsBoundsOf cells i (found_at found i)
    own = bounds.each i (slice_get_within cells i m.draft m.there)

    all : All (λ (l : OwnLayer). HoldsRects p.hull l.set) m.draft.layers.items
    all = λ k d lt.
        let l = get_or m.draft.layers.items k d in
        let at = slice_get-get_or m.draft.layers.items k d lt in
        let rects = own.rects m.draft m.there k d lt in
        own_rects_held p.hull l.set (λ j r at_r.
        let in_set = slice_get_within l.set j r at_r in
        let e : get_or l.set j r ≡ r = (let f : Some (get_or l.set j r) ≡ Some r = sym (slice_get-get_or l.set j r in_set) ∙ at_r in cc) in
        let rect : IsRect r = subst IsRect e (rects j r in_set) in
        let point : (q : Point) → IsCorner r q → Holds (found_at found i) q = λ q c. own.least.holds q (0, inl (m.draft, m.there, among_some (λ (l : OwnLayer). Some_of (λ r. IsCorner r q) l.set) m.draft.layers.items k l at (among_some (λ r. IsCorner r q) l.set j r at_r c))) in
        rect_held (found_at found i) p.hull r rect m.is.hull_is (point (low_of r) (inl refl, inl refl)) (point (high_of r) (inr refl, inr refl)))

all_from : {A : Type 0} (P : A → Type 0) (xs : List A) → ((k : ℕ) (x : A) → slice_get xs k ≡ Some x → P x) → All P xs
all_from P xs h = λ k d lt. h k (get_or xs k d) (slice_get-get_or xs k d lt)

-- a cell stands just above one that it places, or places none
level_sound : (cells : List CellDraft) (parts : List Part) (hs order : List ℕ) (found : List (Option Bounds)) (top : ℕ) (kept : List ℕ) (ds : List CellPart) → IsDone cells parts hs order found top kept ds
    → (i : ℕ) (p : CellPart) → MadeAt cells parts hs found i p → (p.height ≡ 0) ⊎ HasJustBelow ds p
level_sound cells parts hs order found top kept ds done i p m = by (height_in hs i) refl (done.heights.each i (slice_get_within cells i m.draft m.there)).chain
  where
    by : (h : ℕ) → height_in hs i ≡ h → HasChain (Refers cells) i h → (p.height ≡ 0) ⊎ HasJustBelow ds p
    by zero e c = inl (m.is.height_is ∙ e)
    by (suc n) e (j, (k, r, l)) =
        let down = refers_lower cells hs done.heights i k r in
        let in_k = slice_get_within cells k r.names.cell r.names.there in
        let long = (done.heights.each k in_k).longest n (j, l) in
        let h : height_in hs k ≡ n = omega (arith, down, long, e) in
        let q = refers_places cells parts done.sound.once done.are i k r in
        let o = item_at ds k (subst (λ n. k < n) (sym done.made.count) in_k) in
        let below = made_at cells parts hs found ds done.are done.made k o.0 o.1 in
        let same : q.part ≡ m.part = (let f : Some q.part ≡ Some m.part = sym q.there ∙ m.part_there in cc) in
        inr (record {
          number = q.among.0;
          place = q.among.1;
          placed = o.0;
          from = subst (λ xs. slice_get xs q.among.0 ≡ Some q.among.1) (ap (λ (v : Part). v.items) same ∙ sym m.is.places_are) q.among.2;
          there = subst (λ x. slice_get ds x ≡ Some o.0) (sym q.among.3) o.1;
          just = m.is.height_is ∙ e ∙ ap suc (sym (below.is.height_is ∙ h));
        })

pub cell_sound : (cells : List CellDraft) (parts : List Part) (hs order : List ℕ) (found : List (Option Bounds)) (top : ℕ) (kept : List ℕ) (ds : List CellPart) → IsDone cells parts hs order found top kept ds
    → (i : ℕ) (p : CellPart) → slice_get ds i ≡ Some p → IsSoundCell ds p
cell_sound cells parts hs order found top kept ds done i p at =
    let m = made_at cells parts hs found ds done.are done.made i p at in
    let in_i = slice_get_within cells i m.draft m.there in
    let h = m.is.height_is in
    let low = low_height cells hs done.heights done.sound.no_deep i in_i in
    record {
      height = omega arith;
      hull = hull_sound (found_at found i) p.hull (done.bounds.each i in_i).near m.is.hull_is;
      apart = subst (λ xs. AreApart (layer_keys xs)) (sym (ap (λ (v : Vec OwnLayer). v.items) m.is.layers_are)) (done.keys i m.draft m.there);
      own = own_sound cells parts hs found done.bounds i p m;
      places = all_from (IsReference ds p) p.places.items (λ k pl at_pl. reference_sound cells parts hs order found top kept ds done i p m k pl at_pl);
    }

-- steps of references are steps of placements
step_to : (cells : List CellDraft) (parts : List Part) (hs order : List ℕ) (found : List (Option Bounds)) (top : ℕ) (kept : List ℕ) (ds : List CellPart) → IsDone cells parts hs order found top kept ds
    → (i j : ℕ) → Places parts i j → (k : ℕ) × (p : flat.Place) × flat.IsPlaced (plain (linked_of ds top kept)) i k p × (p.cell ≡ j)
step_to cells parts hs order found top kept ds done i j r =
    let d = linked_of ds top kept in
    let c = at_too parts cells i r.part done.are.count r.there in
    let p = at_too cells ds i c.0 (sym done.made.count) c.1 in
    let is = done.made.each i c.0 r.part p.0 c.1 r.there p.1 in
    let a = r.among in
    let arr = part_arrays cells i c.0 r.part.items done.arrays c.1 (done.are.each i c.0 r.part c.1 r.there) a.0 a.1 a.2 in
    let there : slice_get (places_at (cell_at d i)) a.0 ≡ Some a.1 = subst (λ o. slice_get (places_at o) a.0 ≡ Some a.1) (sym p.1) (subst (λ xs. slice_get xs a.0 ≡ Some a.1) (sym is.places_are) a.2) in
    let step : IsStep d i a.0 0 0 a.1 = record { there = there; row_in = arr.rows; column_in = arr.columns } in
    let placed = placed_of d i a.0 0 0 a.1 step in
    (_, _, placed, a.3)

step_from : (cells : List CellDraft) (parts : List Part) (hs order : List ℕ) (found : List (Option Bounds)) (top : ℕ) (kept : List ℕ) (ds : List CellPart) → IsDone cells parts hs order found top kept ds
    → (i k : ℕ) (p : flat.Place) → flat.IsPlaced (plain (linked_of ds top kept)) i k p → Places parts i p.cell
step_from cells parts hs order found top kept ds done i k p placed =
    let d = linked_of ds top kept in
    let s = step_of d i k p placed in
    by (cell_at d i) refl s.index s.from s.step.there (ap (λ (x : flat.Place). x.cell) s.is)
  where
    by : (o : Option CellPart) → cell_at (linked_of ds top kept) i ≡ o → (n : ℕ) (q : Place) → slice_get (places_at o) n ≡ Some q → p.cell ≡ q.cell → Places parts i p.cell
    by None e n q at is = let f : None ≡ Some q = at in absurd (let z : ⊥ = cc in z)
    by (Some c) e n q at is =
        let m = made_at cells parts hs found ds done.are done.made i c e in
        record { part = m.part; there = m.part_there; among = (n, q, subst (λ xs. slice_get xs n ≡ Some q) m.is.places_are at, sym is) }

path_to : (cells : List CellDraft) (parts : List Part) (hs order : List ℕ) (found : List (Option Bounds)) (top : ℕ) (kept : List ℕ) (ds : List CellPart) → IsDone cells parts hs order found top kept ds
    → (n i j : ℕ) → Leads (Places parts) i n j → (path : List ℕ) × flat.Leads (plain (linked_of ds top kept)) i path j
path_to cells parts hs order found top kept ds done zero i j l = ([], l)
path_to cells parts hs order found top kept ds done (suc n) i j (c, r, l) =
    let s = step_to cells parts hs order found top kept ds done i c r in
    let rest = path_to cells parts hs order found top kept ds done n c j l in
    (s.0 ∷ rest.0, (s.1, s.2, subst (λ c. flat.Leads (plain (linked_of ds top kept)) c rest.0 j) (sym s.3) rest.1))

path_from : (cells : List CellDraft) (parts : List Part) (hs order : List ℕ) (found : List (Option Bounds)) (top : ℕ) (kept : List ℕ) (ds : List CellPart) → IsDone cells parts hs order found top kept ds
    → (path : List ℕ) (i j : ℕ) → flat.Leads (plain (linked_of ds top kept)) i path j → (n : ℕ) × Leads (Places parts) i n j
path_from cells parts hs order found top kept ds done [] i j l = (0, l)
path_from cells parts hs order found top kept ds done (k ∷ path) i j (p, placed, l) =
    let rest = path_from cells parts hs order found top kept ds done path p.cell j l in
    (suc rest.0, (p.cell, step_from cells parts hs order found top kept ds done i k p placed, rest.1))

height_here : (cells : List CellDraft) (parts : List Part) (hs : List ℕ) (found : List (Option Bounds)) (top : ℕ) (kept : List ℕ) (ds : List CellPart) → AreParts cells parts → AreMade cells parts found hs ds
    → (i : ℕ) → i < length cells → height_at (linked_of ds top kept) i ≡ height_in hs i
height_here cells parts hs found top kept ds are made i lt =
    let p = item_at ds i (subst (λ n. i < n) (sym made.count) lt) in
    let m = made_at cells parts hs found ds are made i p.0 p.1 in
    ap height_of p.1 ∙ m.is.height_is

stays_inside : (cells : List CellDraft) (parts : List Part) → AreParts cells parts → (n i j : ℕ) → i < length cells → Leads (Places parts) i n j → j < length cells
stays_inside cells parts are zero i j lt l = subst (λ i. i < length cells) l lt
stays_inside cells parts are (suc n) i j lt (c, r, l) = let f = places_refers cells parts are i c r in stays_inside cells parts are n c j (slice_get_within cells c f.names.cell f.names.there) l

pub order_sound : (cells : List CellDraft) (parts : List Part) (hs order : List ℕ) (found : List (Option Bounds)) (top : ℕ) (kept : List ℕ) (ds : List CellPart) → IsDone cells parts hs order found top kept ds
    → IsOrder (linked_of ds top kept)
order_sound cells parts hs order found top kept ds done = record {
  few = (let a = few kept (length cells) apart (λ x l. (let p = place_in kept x l in subst (λ x. x < length cells) p.2 (in_cells p.0 p.1))) in let b = done.sound.few in omega arith);
  inside = λ k lt. subst (λ n. slice_index kept k < n) (sym done.made.count) (in_cells k lt);
  reached = λ k lt. (
      let from = done.reached.inside k (slice_index kept k) (at k lt) in
      let path = path_to cells parts hs order found top kept ds done from.0 top (slice_index kept k) from.1 in
      record { path = path.0; leads = path.1 });
  all = λ cell r. (
      let steps = path_from cells parts hs order found top kept ds done r.path top cell r.leads in
      let in_c = inside steps.0 cell steps.1 in
      let on = on_order cells hs order done.heights done.sound.no_deep done.ordered cell in_c in
      let j = done.reached.all on.0 cell (slice_get_within order on.0 cell on.1) on.1 steps in
      let lt = slice_get_within kept j.0 cell j.1 in
      (j.0, lt, (let f : Some (slice_index kept j.0) ≡ Some cell = sym (at j.0 lt) ∙ j.1 in cc)));
  once = once;
  rising = λ j k lt in_k. (
      let in_j : j < length kept = omega arith in
      let r = done.reached.rising j k (slice_index kept j) (slice_index kept k) lt (at j in_j) (at k in_k) in
      let b = done.ordered.rising r.0 r.1 (slice_index kept j) (slice_index kept k) r.2 r.3 r.4 in
      let hj = height_here cells parts hs found top kept ds done.are done.made (slice_index kept j) (in_cells j in_j) in
      let hk = height_here cells parts hs found top kept ds done.are done.made (slice_index kept k) (in_cells k in_k) in
      elim b [
        | inl x ↦ (let f : height_at (linked_of ds top kept) (slice_index kept j) ≤ height_at (linked_of ds top kept) (slice_index kept k) = omega arith in f)
        | inr x ↦ let e = x.0 in (let f : height_at (linked_of ds top kept) (slice_index kept j) ≤ height_at (linked_of ds top kept) (slice_index kept k) = omega arith in f)
      ]);
}
  where
    at : (k : ℕ) → k < length kept → slice_get kept k ≡ Some (slice_index kept k)
    at k lt = slice_get-get_or kept k 0 lt

    in_cells : (k : ℕ) → k < length kept → slice_index kept k < length cells
    in_cells k lt = let f = done.reached.from k (slice_index kept k) (at k lt) in order_in cells hs order f.0 (slice_index kept k) done.heights done.ordered f.2

    inside : (n cell : ℕ) → Leads (Places parts) top n cell → cell < length cells
    inside n cell l = stays_inside cells parts done.are n top cell done.top_in l

    apart_of : (j k : ℕ) → j < k → k < length kept → slice_index kept j ≡ slice_index kept k → ⊥
    apart_of j k lt in_k e =
        let in_j : j < length kept = omega arith in
        let r = done.reached.rising j k (slice_index kept j) (slice_index kept k) lt (at j in_j) (at k in_k) in
        no_twice hs order done.ordered r.0 r.1 (slice_index kept j) r.2 r.3 (subst (λ x. slice_get order r.1 ≡ Some x) (sym e) r.4)

    once : (j k : ℕ) → j < length kept → k < length kept → slice_index kept j ≡ slice_index kept k → j ≡ k
    once j k in_j in_k e = elim (cases j k) [
      | inl lt ↦ absurd (apart_of j k lt in_k e)
      | inr y ↦ elim y [ inl f ↦ f | inr lt ↦ absurd (apart_of k j lt in_j (sym e)) ]
    ]

    apart : AreApart kept
    apart = apart_by kept once

pub levels_sound : (cells : List CellDraft) (parts : List Part) (hs order : List ℕ) (found : List (Option Bounds)) (top : ℕ) (kept : List ℕ) (ds : List CellPart) → IsDone cells parts hs order found top kept ds
    → HaveLevels (linked_of ds top kept)
levels_sound cells parts hs order found top kept ds done = record {
  just = λ i p at. level_sound cells parts hs order found top kept ds done i p (made_at cells parts hs found ds done.are done.made i p at);
  filed = λ j k lt in_k same. (
      let in_j : j < length kept = omega arith in
      let r = done.reached.rising j k (slice_index kept j) (slice_index kept k) lt (at j in_j) (at k in_k) in
      let b = done.ordered.rising r.0 r.1 (slice_index kept j) (slice_index kept k) r.2 r.3 r.4 in
      let hj = height_here cells parts hs found top kept ds done.are done.made (slice_index kept j) (in_cells j in_j) in
      let hk = height_here cells parts hs found top kept ds done.are done.made (slice_index kept k) (in_cells k in_k) in
      elim b [ inl x ↦ absurd (let z : ⊥ = omega (arith, x, hj, hk, same) in z) | inr x ↦ x.1 ]);
}
  where
    at : (k : ℕ) → k < length kept → slice_get kept k ≡ Some (slice_index kept k)
    at k lt = slice_get-get_or kept k 0 lt

    in_cells : (k : ℕ) → k < length kept → slice_index kept k < length cells
    in_cells k lt = let f = done.reached.from k (slice_index kept k) (at k lt) in order_in cells hs order f.0 (slice_index kept k) done.heights done.ordered f.2

pub is_link : (cells : List CellDraft) (parts : List Part) (hs order : List ℕ) (found : List (Option Bounds)) (top : ℕ) (kept : List ℕ) (ds : List CellPart) (name : Option (List ℕ))
    → IsDone cells parts hs order found top kept ds → IsTop cells name top → IsLink cells name (linked_of ds top kept)
is_link cells parts hs order found top kept ds name done tops = record {
  sound = done.sound;
  near = λ i far. not_far cells i (found_at found i) (done.bounds.each i (far_inside cells i far)) far;
  count = done.made.count;
  each = λ i c p at_c at_p. (
      let m = made_at cells parts hs found ds done.are done.made i p at_p in
      let same : m.draft ≡ c = (let f : Some m.draft ≡ Some c = sym m.there ∙ at_c in cc) in
      let in_i = slice_get_within cells i c at_c in
      subst (λ c. IsPartOf cells i c p) same (record {
        name = m.is.name_is;
        layers = ap (λ (v : Vec OwnLayer). v.items) m.is.layers_are;
        texts = ap (λ (v : Vec RawText). v.items) m.is.texts_are;
        places = subst (λ xs. AreAllResolved cells m.draft.refs.items xs) (sym m.is.places_are) (done.are.each i m.draft m.part m.there m.part_there);
        height = subst (IsHeightOf (Refers cells) i) (sym m.is.height_is) (done.heights.each i in_i);
        hull = hull_exact (IsHullPoint cells i) (found_at found i) p.hull (done.bounds.each i in_i).least m.is.hull_is;
      }));
  tops = tops;
  order = record {
    reached = λ k lt. (let r = done.reached.inside k (slice_index kept k) (slice_get-get_or kept k 0 lt) in (r.0, leads_too (Places parts) (Refers cells) (places_refers cells parts done.are) r.0 top (slice_index kept k) r.1));
    all = λ n i l. (
        let m : Leads (Places parts) top n i = leads_too (Refers cells) (Places parts) (refers_places cells parts done.sound.once done.are) n top i l in
        let in_i = stays_inside cells parts done.are n top i done.top_in m in
        let on = on_order cells hs order done.heights done.sound.no_deep done.ordered i in_i in
        let j = done.reached.all on.0 i (slice_get_within order on.0 i on.1) on.1 (n, m) in
        let lt = slice_get_within kept j.0 i j.1 in
        (j.0, lt, (let f : Some (slice_index kept j.0) ≡ Some i = sym (slice_get-get_or kept j.0 0 lt) ∙ j.1 in cc)));
    rising = λ j k lt in_k. (
        let in_j : j < length kept = omega arith in
        let a = slice_index kept j in
        let b = slice_index kept k in
        let at_j : slice_get kept j ≡ Some a = slice_get-get_or kept j 0 in_j in
        let at_k : slice_get kept k ≡ Some b = slice_get-get_or kept k 0 in_k in
        let r = done.reached.rising j k a b lt at_j at_k in
        let in_a = order_in cells hs order r.0 a done.heights done.ordered r.3 in
        let in_b = order_in cells hs order r.1 b done.heights done.ordered r.4 in
        record {
          height_i = height_in hs a;
          height_j = height_in hs b;
          of_i = done.heights.each a in_a;
          of_j = done.heights.each b in_b;
          before = done.ordered.rising r.0 r.1 a b r.2 r.3 r.4;
        });
  };
}

pub top_inside : (cells : List CellDraft) (name : Option (List ℕ)) (i : ℕ) → IsTop cells name i → i < length cells
top_inside cells None i (root, only) = root.there
top_inside cells (Some name) i named = slice_get_within cells i named.cell named.there

-- what was examined, and the cells made of it
pub done_of : (cells now : List CellDraft) (name : Option (List ℕ)) (e : Findings) (found : List (Option Bounds)) (hs : List ℕ) (ds : List CellPart) → now ≡ cells → found ≡ e.bounds.items → hs ≡ e.heights.items
    → IsExamined now name e → AreMade cells e.parts.items found hs ds → ((i : ℕ) (c : CellDraft) → slice_get cells i ≡ Some c → AreApart (layer_keys c.layers.items)) → HaveArrays cells
    → (x : IsExamined cells name e) × IsDone cells e.parts.items e.heights.items x.all e.bounds.items e.top e.order.items ds
done_of cells now name e found hs ds is_now is_found are_hs examined made keys arrays =
    let x : IsExamined cells name e = subst (λ (cs : List CellDraft). IsExamined cs name e) is_now examined in (
      x,
      record {
        sound = x.sound;
        are = x.are;
        heights = x.heights_are;
        ordered = x.ordered;
        bounds = x.bounds_are;
        reached = x.reached;
        made = subst (λ (bs : List (Option Bounds)). AreMade cells e.parts.items bs e.heights.items ds) is_found (subst (λ (ns : List ℕ). AreMade cells e.parts.items found ns ds) are_hs made);
        keys = keys;
        arrays = arrays;
        top_in = top_inside cells name e.top x.tops;
      },
    )
