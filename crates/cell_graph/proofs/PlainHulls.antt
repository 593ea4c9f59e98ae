-- The hulls of finished cells are those of the plain layout that the design stands for.
use Rattle.std.proofs.Common.{◌≡◌, ◌⊎◌, inl, inr, ℕ, zero, suc, ◌<◌, ℤ, pos, ◌+ℤ◌, ◌-ℤ◌, ◌≤ℤ◌, ◌<ℤ◌, List, [], ◌∷◌, Option, Some, None, map, slice_get, refl, sym, ◌∙◌, ap, subst, arith}
use Rattle.base_laws.proofs.Items.{map_from, map_to, item_at}
use Rattle.std.proofs.lemmas.Int.{ints}
use Rattle.std.proofs.lemmas.Option.{slice_get_within}
use Rattle.std.specs.Global.{Vec}
use Rattle.std.specs.List.{All}
use Rattle.geo_base.specs.Motions.{moved_point}
use Rattle.geo_base.specs.Rects.{IsRect}
use Rattle.geo_base.specs.declared.layer.LayerKey.{LayerKey}
use Rattle.geo_base.specs.declared.motion.Motion.{Motion}
use Rattle.geo_base.specs.declared.shapes.Point.{Point}
use Rattle.geo_base.specs.declared.shapes.Rect.{Rect}
use Rattle.geo_base.specs.declared.shapes.Square.{Square}
use Rattle.flat_layout.specs.Arrays.{place_at}
use Rattle.flat_layout.specs.Hull as plain_hull
use Rattle.flat_layout.specs.Hull.{TakesPoint, IsHullRect}
use Rattle.flat_layout.specs.Layout as flat
use Rattle.flat_layout.specs.Layout.{Some_of}
use Rattle.flat_layout.specs.Plane as plane
use Rattle.flat_layout.specs.Plane.{IsIn}
use Rattle.cell_graph.specs.declared.cells.OwnLayer.{OwnLayer}
use Rattle.cell_graph.specs.declared.cells.RawText.{RawText}
use Rattle.cell_graph.specs.declared.cells.Place.{Place}
use Rattle.cell_graph.specs.declared.cells.CellPart.{CellPart}
use Rattle.cell_graph.specs.Linked.{linked_of, plain, plain_cell, plain_layer, plain_text, reference, motion_at, cell_at, places_at, hull_of, IsStep}
use Rattle.cell_graph.proofs.Bridge.{all_at, part_of, step_of, placed_of}
use Rattle.cell_graph.specs.declared.bounds.Bounds.{Bounds}
use Rattle.cell_graph.specs.declared.drafts.CellDraft.{CellDraft}
use Rattle.cell_graph.specs.Bounds.{range_of}
use Rattle.cell_graph.specs.Drafts.{IsCorner, IsOrigin, IsElementOf, IsOwnPoint, IsPointBy, IsHullPoint}
use Rattle.cell_graph.specs.Extents.{found_at}
use Rattle.cell_graph.specs.Finished.{IsBoundsHull}
use Rattle.cell_graph.specs.Parts.{Part}
use Rattle.cell_graph.specs.Sides.{Left, Low, Right, High, Holds, Widens}
use Rattle.cell_graph.proofs.Extending.{low_of, high_of}
use Rattle.cell_graph.proofs.Hulls.{some_among, among_some, element_from, element_to, image_held}
use Rattle.cell_graph.proofs.Sound.{IsDone, MadeAt, made_at, up, corner_held}
use Rattle.cell_graph.proofs.Widening.{least_of}

-- what stands between held corners is held
between_some : (x : Bounds) (r : Rect) (p : Point) → r.x1 ≤ℤ p.x → p.x ≤ℤ r.x2 → r.y1 ≤ℤ p.y → p.y ≤ℤ r.y2 → Holds (Some x) (low_of r) → Holds (Some x) (high_of r) → Holds (Some x) p
between_some x r p x1 x2 y1 y2 low high Left = up x.x1 r.x1 p.x (low Left) x1
between_some x r p x1 x2 y1 y2 low high Low = up x.y1 r.y1 p.y (low Low) y1
between_some x r p x1 x2 y1 y2 low high Right = let h = high Right in omega (arith, ints)
between_some x r p x1 x2 y1 y2 low high High = let h = high High in omega (arith, ints)

between : (b : Option Bounds) (r : Rect) (p : Point) → r.x1 ≤ℤ p.x → p.x ≤ℤ r.x2 → r.y1 ≤ℤ p.y → p.y ≤ℤ r.y2 → Holds b (low_of r) → Holds b (high_of r) → Holds b p
between None r p x1 x2 y1 y2 low high = absurd low
between (Some x) r p x1 x2 y1 y2 low high = between_some x r p x1 x2 y1 y2 low high

corner_between : (a c x z : ℤ) → a ≤ℤ x → x <ℤ c → (z ≡ x) ⊎ (z ≡ x +ℤ pos 1) → (a ≤ℤ z) × (z ≤ℤ c)
corner_between a c x z low high (inl e) = ((omega (arith, ints)), (omega (arith, ints)))
corner_between a c x z low high (inr e) = ((omega (arith, ints)), (omega (arith, ints)))

-- a side's number is the one of a square's two sides
square_at : (a c z : ℤ) → a <ℤ c → (z ≡ a) ⊎ (z ≡ c) → (x : ℤ) × (a ≤ℤ x) × (x <ℤ c) × ((z ≡ x) ⊎ (z ≡ x +ℤ pos 1))
square_at a c z lt (inl e) = (a, (omega (arith, ints)), lt, inl e)
square_at a c z lt (inr e) = (c -ℤ pos 1, (omega (arith, ints)), (omega (arith, ints)), inr (omega (arith, ints)))

-- the hull of bounds, by two sets of points with the same least range
hull_by : (d : flat.Design) (i : ℕ) (Q : Point → Type 0) (b : Option Bounds) (h : Option Rect) → ((p : Point) → plain_hull.IsHullPoint d i p → Holds b p) → ((p : Point) → Q p → plain_hull.IsHullPoint d i p)
    → Widens None Q b → IsBoundsHull b h → plain_hull.IsHullOf d i h
hull_by d i Q None None held points least is = λ q g. held g.west.0 g.west.1
hull_by d i Q None (Some r) held points least is = let f : Some r ≡ None = is in absurd (let z : ⊥ = cc in z)
hull_by d i Q (Some b) None held points least is = λ q g. elim is [ inl f ↦ no_width f g.wide | inr f ↦ no_height f g.tall ]
  where
    no_width : b.x2 ≤ℤ b.x1 → (a c : Point) × plain_hull.IsHullPoint d i a × plain_hull.IsHullPoint d i c × (a.x <ℤ c.x) → ⊥
    no_width f (a, c, at_a, at_c, lt) = let l = held a at_a Left in let r = held c at_c Right in omega (arith, ints)

    no_height : b.y2 ≤ℤ b.y1 → (a c : Point) × plain_hull.IsHullPoint d i a × plain_hull.IsHullPoint d i c × (a.y <ℤ c.y) → ⊥
    no_height f (a, c, at_a, at_c, lt) = let l = held a at_a Low in let r = held c at_c High in omega (arith, ints)
hull_by d i Q (Some b) (Some r) held points least is = subst (IsHullRect d i) (sym is.0) here
  where
    inside : (p : Point) → b.x1 ≤ℤ p.x → b.y1 ≤ℤ p.y → (pos 0 -ℤ b.x2) ≤ℤ (pos 0 -ℤ p.x) → (pos 0 -ℤ b.y2) ≤ℤ (pos 0 -ℤ p.y) → (b.x1 ≤ℤ p.x) × (p.x ≤ℤ b.x2) × (b.y1 ≤ℤ p.y) × (p.y ≤ℤ b.y2)
    inside p l o r h = (l, (omega (arith, ints)), o, (omega (arith, ints)))

    here : IsHullRect d i (range_of b)
    here = let l = least_of Q b least in record {
      wide = is.1;
      tall = is.2;
      holds = λ p at. (let f = held p at in inside p (f Left) (f Low) (f Right) (f High));
      west = (let s = l.left in (s.0, points s.0 s.1, s.2));
      east = (let s = l.right in (s.0, points s.0 s.1, s.2));
      south = (let s = l.low in (s.0, points s.0 s.1, s.2));
      north = (let s = l.high in (s.0, points s.0 s.1, s.2));
    }

-- own squares of a cell lie between held corners
squares_held : (cells : List CellDraft) (i : ℕ) (c : CellDraft) (b : Option Bounds) (key : LayerKey) (q : Square) (p : Point) → slice_get cells i ≡ Some c → Widens None (IsHullPoint cells i) b
    → Some_of (λ (layer : flat.Layer). (layer.key ≡ key) × Some_of (IsIn q) layer.rects) (map plain_layer c.layers.items) → plane.IsCorner p q → Holds b p
squares_held cells i c b key q p there least some corner =
    let o = some_among (λ (layer : flat.Layer). (layer.key ≡ key) × Some_of (IsIn q) layer.rects) (map plain_layer c.layers.items) some in
    let l = map_from plain_layer c.layers.items o.0 o.1 o.2 in
    let on = o.3 in
    let in_l : Some_of (IsIn q) l.0.set = subst (λ (x : flat.Layer). Some_of (IsIn q) x.rects) (sym l.2) on.1 in
    let r = some_among (IsIn q) l.0.set in_l in
    let in_r = r.3 in
    let x = corner_between r.1.x1 r.1.x2 q.x p.x in_r.0 in_r.1 corner.x in
    let y = corner_between r.1.y1 r.1.y2 q.y p.y in_r.2 in_r.3 corner.y in
    let point : (s : Point) → IsCorner r.1 s → Holds b s = λ s is. least.holds s (0, inl (c, there, among_some (λ (l : OwnLayer). Some_of (λ r. IsCorner r s) l.set) c.layers.items o.0 l.0 l.1 (among_some (λ r. IsCorner r s) l.0.set r.0 r.1 r.2 is))) in
    between b r.1 p x.0 x.1 y.0 y.1 (point (low_of r.1) (inl refl, inl refl)) (point (high_of r.1) (inr refl, inr refl))

texts_held : (cells : List CellDraft) (i : ℕ) (c : CellDraft) (b : Option Bounds) (text : flat.Text) (p : Point) → slice_get cells i ≡ Some c → Widens None (IsHullPoint cells i) b
    → Some_of (λ t. t ≡ text) (map plain_text c.texts.items) → text.at ≡ p → Holds b p
texts_held cells i c b text p there least some at =
    let o = some_among (λ t. t ≡ text) (map plain_text c.texts.items) some in
    let t = map_from plain_text c.texts.items o.0 o.1 o.2 in
    let is : t.0.at ≡ p = ap (λ (x : flat.Text). x.at) (t.2 ∙ o.3) ∙ at in
    least.holds p (0, inr (inl (c, there, among_some (λ (t : RawText). t.at ≡ p) c.texts.items o.0 t.0 t.1 is)))

-- a placement as an element of a resolved reference
record IsElementIn (part : Part) (p : flat.Place) : Type 0 where
  pub index : ℕ
  pub row : ℕ
  pub column : ℕ
  pub from : Place
  pub there : slice_get part.items index ≡ Some from
  pub row_in : row < from.rows
  pub column_in : column < from.columns
  pub is : p ≡ place_at (reference from) row column

-- a finished cell of the design
pub record Finished (cells : List CellDraft) (parts : List Part) (hs : List ℕ) (found : List (Option Bounds)) (ds : List CellPart) (i : ℕ) : Type 0 where
  pub cell : CellPart
  pub at : slice_get ds i ≡ Some cell
  pub made : MadeAt cells parts hs found i cell

pub finished_at : (cells : List CellDraft) (parts : List Part) (hs order : List ℕ) (found : List (Option Bounds)) (top : ℕ) (kept : List ℕ) (ds : List CellPart) → IsDone cells parts hs order found top kept ds
    → (i : ℕ) (c : flat.Cell) → slice_get (plain (linked_of ds top kept)).cells i ≡ Some c → Finished cells parts hs found ds i
finished_at cells parts hs order found top kept ds done i c e =
    let p = part_of (linked_of ds top kept) i c e in
    record { cell = p.0; at = p.1; made = made_at cells parts hs found ds done.are done.made i p.0 p.1 }

draft_at : (cells : List CellDraft) (parts : List Part) (hs order : List ℕ) (found : List (Option Bounds)) (top : ℕ) (kept : List ℕ) (ds : List CellPart) → IsDone cells parts hs order found top kept ds
    → (i : ℕ) (c : CellDraft) → slice_get cells i ≡ Some c → Finished cells parts hs found ds i
draft_at cells parts hs order found top kept ds done i c e =
    let p = item_at ds i (subst (λ n. i < n) (sym done.made.count) (slice_get_within cells i c e)) in
    record { cell = p.0; at = p.1; made = made_at cells parts hs found ds done.are done.made i p.0 p.1 }

element_in : (cells : List CellDraft) (parts : List Part) (hs : List ℕ) (found : List (Option Bounds)) (top : ℕ) (kept : List ℕ) (ds : List CellPart) (i : ℕ) (f : Finished cells parts hs found ds i)
    → (k : ℕ) (p : flat.Place) → flat.IsPlaced (plain (linked_of ds top kept)) i k p → IsElementIn f.made.part p
element_in cells parts hs found top kept ds i f k p placed =
    let s = step_of (linked_of ds top kept) i k p placed in
    record {
      index = s.index;
      row = s.row;
      column = s.column;
      from = s.from;
      there = subst (λ xs. slice_get xs s.index ≡ Some s.from) f.made.is.places_are (subst (λ o. slice_get (places_at o) s.index ≡ Some s.from) f.at s.step.there);
      row_in = s.step.row_in;
      column_in = s.step.column_in;
      is = s.is;
    }

-- points of the plain layout lie in the bounds
pub own_held : (cells : List CellDraft) (parts : List Part) (hs order : List ℕ) (found : List (Option Bounds)) (top : ℕ) (kept : List ℕ) (ds : List CellPart) → IsDone cells parts hs order found top kept ds
    → (i : ℕ) (p : Point) → plain_hull.IsOwnPoint (plain (linked_of ds top kept)) i p → Holds (found_at found i) p
own_held cells parts hs order found top kept ds done i p (inl (key, q, o, corner)) =
    let f = finished_at cells parts hs order found top kept ds done i o.0 o.1 in
    let m = f.made in
    let least = (done.bounds.each i (slice_get_within cells i m.draft m.there)).least in
    let c : flat.Cell = o.0 in
    let e : plain_cell f.cell ≡ c = (let g : Some (plain_cell f.cell) ≡ Some c = sym (map_to plain_cell ds i f.cell f.at) ∙ o.1 in cc) in
    let some = subst (λ (c : flat.Cell). Some_of (λ (layer : flat.Layer). (layer.key ≡ key) × Some_of (IsIn q) layer.rects) c.layers) (sym e) o.2 in
    let in_draft = subst (λ (ls : Vec OwnLayer). Some_of (λ (layer : flat.Layer). (layer.key ≡ key) × Some_of (IsIn q) layer.rects) (map plain_layer ls.items)) m.is.layers_are some in
    squares_held cells i m.draft (found_at found i) key q p m.there least in_draft corner
own_held cells parts hs order found top kept ds done i p (inr (inl (text, o, at))) =
    let f = finished_at cells parts hs order found top kept ds done i o.0 o.1 in
    let m = f.made in
    let least = (done.bounds.each i (slice_get_within cells i m.draft m.there)).least in
    let c : flat.Cell = o.0 in
    let e : plain_cell f.cell ≡ c = (let g : Some (plain_cell f.cell) ≡ Some c = sym (map_to plain_cell ds i f.cell f.at) ∙ o.1 in cc) in
    let some = subst (λ (c : flat.Cell). Some_of (λ t. t ≡ text) c.texts) (sym e) o.2 in
    let in_draft = subst (λ (ts : Vec RawText). Some_of (λ t. t ≡ text) (map plain_text ts.items)) m.is.texts_are some in
    texts_held cells i m.draft (found_at found i) text p m.there least in_draft at
own_held cells parts hs order found top kept ds done i p (inr (inr (k, place, placed, x, y))) =
    let f = finished_at cells parts hs order found top kept ds done i placed.0 placed.1 in
    let m = f.made in
    let least = (done.bounds.each i (slice_get_within cells i m.draft m.there)).least in
    let el = element_in cells parts hs found top kept ds i f k place placed in
    let e = element_to cells i m.draft m.part.items el.index el.from el.row el.column m.there (done.are.each i m.draft m.part m.there m.part_there) el.there el.row_in el.column_in in
    let is : place.motion ≡ motion_at el.from el.row el.column = ap (λ (q : flat.Place). q.motion) el.is in
    let origin : IsOrigin (motion_at el.from el.row el.column) p = (sym x ∙ ap (λ (m : Motion). m.dx) is, sym y ∙ ap (λ (m : Motion). m.dy) is) in
    least.holds p (0, inr (inr (motion_at el.from el.row el.column, el.from.cell, e, origin)))

-- and so do their images
pub image_in : (cells : List CellDraft) (parts : List Part) (hs order : List ℕ) (found : List (Option Bounds)) (top : ℕ) (kept : List ℕ) (ds : List CellPart) → IsDone cells parts hs order found top kept ds
    → (i k : ℕ) (p : flat.Place) (r q : Point) → flat.IsPlaced (plain (linked_of ds top kept)) i k p → Holds (found_at found p.cell) r → moved_point p.motion r ≡ q → Holds (found_at found i) q
image_in cells parts hs order found top kept ds done i k p r q placed below e =
    let f = finished_at cells parts hs order found top kept ds done i placed.0 placed.1 in
    let m = f.made in
    let el = element_in cells parts hs found top kept ds i f k p placed in
    let mo = motion_at el.from el.row el.column in
    let el_of = element_to cells i m.draft m.part.items el.index el.from el.row el.column m.there (done.are.each i m.draft m.part m.there m.part_there) el.there el.row_in el.column_in in
    let own_i = done.bounds.each i (slice_get_within cells i m.draft m.there) in
    let own_j = done.bounds.each el.from.cell (slice_get_within cells el.from.cell el_of.names.cell el_of.names.there) in
    let corners = corner_held (IsHullPoint cells el.from.cell) (found_at found el.from.cell) (found_at found i) mo own_j.least
    (λ s (steps, by). own_i.least.holds (moved_point mo s) (suc steps, (mo, el.from.cell, el_of, s, by, refl))) in
    let there : Holds (found_at found el.from.cell) r = subst (λ c. Holds (found_at found c) r) (ap (λ (q : flat.Place). q.cell) el.is) below in
    let at : moved_point mo r ≡ q = ap (λ (q : flat.Place). moved_point q.motion r) (sym el.is) ∙ e in
    subst (Holds (found_at found i)) at (image_held (found_at found el.from.cell) (found_at found i) mo r there corners)

points_held : (cells : List CellDraft) (parts : List Part) (hs order : List ℕ) (found : List (Option Bounds)) (top : ℕ) (kept : List ℕ) (ds : List CellPart) → IsDone cells parts hs order found top kept ds
    → (path : List ℕ) (i end : ℕ) (s q : Point) → TakesPoint (plain (linked_of ds top kept)) i path end s q → plain_hull.IsOwnPoint (plain (linked_of ds top kept)) end s → Holds (found_at found i) q
points_held cells parts hs order found top kept ds done [] i end s q takes own =
    let d = plain (linked_of ds top kept) in
    let here : plain_hull.IsOwnPoint d i q = subst (λ c. plain_hull.IsOwnPoint d c q) (sym takes.0) (subst (λ x. plain_hull.IsOwnPoint d end x) takes.1 own) in
    own_held cells parts hs order found top kept ds done i q here
points_held cells parts hs order found top kept ds done (k ∷ ks) i end s q (p, placed, r, rest, e) own =
    let below = points_held cells parts hs order found top kept ds done ks p.cell end s r rest own in
    image_in cells parts hs order found top kept ds done i k p r q placed below e

-- a placement for each element
record IsPlacement (d : flat.Design) (i : ℕ) (m : Motion) (j : ℕ) : Type 0 where
  pub number : ℕ
  pub place : flat.Place
  pub placed : flat.IsPlaced d i number place
  pub cell : place.cell ≡ j
  pub motion : place.motion ≡ m

placement_of : (cells : List CellDraft) (parts : List Part) (hs order : List ℕ) (found : List (Option Bounds)) (top : ℕ) (kept : List ℕ) (ds : List CellPart) → IsDone cells parts hs order found top kept ds
    → (i : ℕ) (m : Motion) (j : ℕ) → IsElementOf cells i m j → IsPlacement (plain (linked_of ds top kept)) i m j
placement_of cells parts hs order found top kept ds done i mo j e =
    let f = draft_at cells parts hs order found top kept ds done i e.has.cell e.has.there in
    let m = f.made in
    let all = done.are.each i m.draft m.part m.there m.part_there in
    let el = element_from cells i m.draft m.part.items mo j done.sound.once m.there all e in
    let there : slice_get (places_at (cell_at (linked_of ds top kept) i)) el.index ≡ Some el.place =
    subst (λ o. slice_get (places_at o) el.index ≡ Some el.place) (sym f.at) (subst (λ xs. slice_get xs el.index ≡ Some el.place) (sym m.is.places_are) el.there) in
    let step : IsStep (linked_of ds top kept) i el.index el.row el.column el.place = record { there = there; row_in = el.in_rows; column_in = el.in_columns } in
    let placed = placed_of (linked_of ds top kept) i el.index el.row el.column el.place step in
    record { number = _; place = place_at (reference el.place) el.row el.column; placed = placed; cell = el.cell_is; motion = el.is }

-- points of the drafts are points of the plain layout
corner_point : (cells : List CellDraft) (parts : List Part) (hs order : List ℕ) (found : List (Option Bounds)) (top : ℕ) (kept : List ℕ) (ds : List CellPart) → IsDone cells parts hs order found top kept ds
    → (i : ℕ) (p : Point) (f : Finished cells parts hs found ds i) → Some_of (λ (l : OwnLayer). Some_of (λ r. IsCorner r p) l.set) f.made.draft.layers.items → plain_hull.IsOwnPoint (plain (linked_of ds top kept)) i p
corner_point cells parts hs order found top kept ds done i p f some =
    let m = f.made in
    let own = done.bounds.each i (slice_get_within cells i m.draft m.there) in
    let o = some_among (λ (l : OwnLayer). Some_of (λ r. IsCorner r p) l.set) m.draft.layers.items some in
    let l = o.1 in
    let r = some_among (λ r. IsCorner r p) l.set o.3 in
    let corner = r.3 in
    let rect : IsRect r.1 = all_at IsRect l.set r.0 r.1 (all_at (λ (l : OwnLayer). All IsRect l.set) m.draft.layers.items o.0 l (own.rects m.draft m.there) o.2) r.2 in
    let x = square_at r.1.x1 r.1.x2 p.x rect.wide corner.0 in
    let y = square_at r.1.y1 r.1.y2 p.y rect.high corner.1 in
    let q : Square = record { x = x.0; y = y.0 } in
    let at_l : slice_get f.cell.layers.items o.0 ≡ Some l = subst (λ (ls : Vec OwnLayer). slice_get ls.items o.0 ≡ Some l) (sym m.is.layers_are) o.2 in
    let on = among_some (λ (layer : flat.Layer). (layer.key ≡ l.key) × Some_of (IsIn q) layer.rects) (map plain_layer f.cell.layers.items) o.0 (plain_layer l) (map_to plain_layer f.cell.layers.items o.0 l at_l)
    (refl, among_some (IsIn q) l.set r.0 r.1 r.2 (x.1, x.2, y.1, y.2)) in
    inl (l.key, q, (plain_cell f.cell, map_to plain_cell ds i f.cell f.at, on), record { x = x.3; y = y.3 })

own_point : (cells : List CellDraft) (parts : List Part) (hs order : List ℕ) (found : List (Option Bounds)) (top : ℕ) (kept : List ℕ) (ds : List CellPart) → IsDone cells parts hs order found top kept ds
    → (i : ℕ) (p : Point) → IsOwnPoint cells i p → plain_hull.IsOwnPoint (plain (linked_of ds top kept)) i p
own_point cells parts hs order found top kept ds done i p (inl (c, there, some)) =
    let f = draft_at cells parts hs order found top kept ds done i c there in
    let same : c ≡ f.made.draft = (let g : Some c ≡ Some f.made.draft = sym there ∙ f.made.there in cc) in
    corner_point cells parts hs order found top kept ds done i p f (subst (λ (c : CellDraft). Some_of (λ (l : OwnLayer). Some_of (λ r. IsCorner r p) l.set) c.layers.items) same some)
own_point cells parts hs order found top kept ds done i p (inr (inl (c, there, some))) =
    let f = draft_at cells parts hs order found top kept ds done i c there in
    let m = f.made in
    let same : c ≡ m.draft = (let g : Some c ≡ Some m.draft = sym there ∙ m.there in cc) in
    let o = some_among (λ (t : RawText). t.at ≡ p) m.draft.texts.items (subst (λ (c : CellDraft). Some_of (λ (t : RawText). t.at ≡ p) c.texts.items) same some) in
    let at_t : slice_get f.cell.texts.items o.0 ≡ Some o.1 = subst (λ (ts : Vec RawText). slice_get ts.items o.0 ≡ Some o.1) (sym m.is.texts_are) o.2 in
    let on = among_some (λ t. t ≡ plain_text o.1) (map plain_text f.cell.texts.items) o.0 (plain_text o.1) (map_to plain_text f.cell.texts.items o.0 o.1 at_t) refl in
    inr (inl (plain_text o.1, (plain_cell f.cell, map_to plain_cell ds i f.cell f.at, on), o.3))
own_point cells parts hs order found top kept ds done i p (inr (inr (m, j, e, origin))) =
    let pl = placement_of cells parts hs order found top kept ds done i m j e in
    inr (inr (pl.number, pl.place, pl.placed, ap (λ (m : Motion). m.dx) pl.motion ∙ sym origin.0, ap (λ (m : Motion). m.dy) pl.motion ∙ sym origin.1))

plain_point : (cells : List CellDraft) (parts : List Part) (hs order : List ℕ) (found : List (Option Bounds)) (top : ℕ) (kept : List ℕ) (ds : List CellPart) → IsDone cells parts hs order found top kept ds
    → (n i : ℕ) (p : Point) → IsPointBy cells n i p → plain_hull.IsHullPoint (plain (linked_of ds top kept)) i p
plain_point cells parts hs order found top kept ds done zero i p h = record {
  path = [];
  end = i;
  point = p;
  takes = (refl, refl);
  own = own_point cells parts hs order found top kept ds done i p h;
}
plain_point cells parts hs order found top kept ds done (suc n) i p (m, j, e, q, h, is) =
    let d = plain (linked_of ds top kept) in
    let pl = placement_of cells parts hs order found top kept ds done i m j e in
    let below = plain_point cells parts hs order found top kept ds done n j q h in
    record {
      path = pl.number ∷ below.path;
      end = below.end;
      point = below.point;
      takes = (pl.place, pl.placed, q, subst (λ c. TakesPoint d c below.path below.end below.point q) (sym pl.cell) below.takes, ap (λ m. moved_point m q) pl.motion ∙ is);
      own = below.own;
    }

-- a cell past the last has no point
point_cell : (d : flat.Design) (i : ℕ) (path : List ℕ) (end : ℕ) (s q : Point) → TakesPoint d i path end s q → plain_hull.IsOwnPoint d end s → (c : flat.Cell) × (slice_get d.cells i ≡ Some c)
point_cell d i [] end s q takes (inl (key, r, o, corner)) = subst (λ k. (c : flat.Cell) × (slice_get d.cells k ≡ Some c)) (sym takes.0) (o.0, o.1)
point_cell d i [] end s q takes (inr (inl (text, o, at))) = subst (λ k. (c : flat.Cell) × (slice_get d.cells k ≡ Some c)) (sym takes.0) (o.0, o.1)
point_cell d i [] end s q takes (inr (inr (k, place, placed, x, y))) = subst (λ k. (c : flat.Cell) × (slice_get d.cells k ≡ Some c)) (sym takes.0) (placed.0, placed.1)
point_cell d i (k ∷ ks) end s q (p, placed, r, rest, e) own = (placed.0, placed.1)

pub hull_sound_at : (cells : List CellDraft) (parts : List Part) (hs order : List ℕ) (found : List (Option Bounds)) (top : ℕ) (kept : List ℕ) (ds : List CellPart) → IsDone cells parts hs order found top kept ds
    → (i : ℕ) (o : Option CellPart) → cell_at (linked_of ds top kept) i ≡ o → plain_hull.IsHullOf (plain (linked_of ds top kept)) i (hull_of o)
hull_sound_at cells parts hs order found top kept ds done i None e = λ q g.
    let at = g.west.1 in
    let c = point_cell (plain (linked_of ds top kept)) i at.path at.end at.point g.west.0 at.takes at.own in
    let p = part_of (linked_of ds top kept) i c.0 c.1 in
    let f : None ≡ Some p.0 = sym e ∙ p.1 in let z : ⊥ = cc in z
hull_sound_at cells parts hs order found top kept ds done i (Some c) e =
    let m = made_at cells parts hs found ds done.are done.made i c e in
    let own = done.bounds.each i (slice_get_within cells i m.draft m.there) in
    hull_by (plain (linked_of ds top kept)) i (IsHullPoint cells i) (found_at found i) c.hull
    (λ p at. points_held cells parts hs order found top kept ds done at.path i at.end at.point p at.takes at.own)
    (λ p (n, by). plain_point cells parts hs order found top kept ds done n i p by)
    own.least m.is.hull_is
