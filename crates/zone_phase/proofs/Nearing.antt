-- Placements by themselves, and what they bring to one another.
use Rattle.std.proofs.Common.{◌≡◌, ◌&&◌, int_eq, rules, inl, inr, ℕ, ℤ, zero, suc, pos, ◌<◌, ◌^◌, ◌+ℤ◌, ◌*ℤ◌, true, List, [], ◌∷◌, Some, length, slice_get, slice_index_or, refl, sym, ◌∙◌, ap, subst, arith}
use Rattle.base_laws.proofs.Items.{push_cases}
use Rattle.std.proofs.lemmas.Bool.{and_parts}
use Rattle.std.proofs.lemmas.Bool.Decides.{Decides-int_eq}
use Rattle.std.proofs.lemmas.Int.{ints}
use Rattle.geo_base.specs.contracts.motion.Turn.{the_type}
use Rattle.geo_base.specs.declared.motion.Turn.{Turn}
use denote.Enum.Bare.{sameb, same_true}
use Rattle.geo_base.specs.Near.{IsWithin}
use Rattle.geo_base.specs.Motions.{moved_square}
use Rattle.geo_base.specs.Rects.{has, moved_rect, IsRect}
use Rattle.geo_base.specs.declared.layer.LayerKey.{LayerKey}
use Rattle.geo_base.specs.declared.motion.Motion.{Motion}
use Rattle.geo_base.specs.declared.shapes.Rect.{Rect}
use Rattle.geo_base.specs.declared.shapes.Square.{Square}
use Rattle.geo_base.proofs.Images.{different_images}
use Rattle.geo_base.proofs.Spans.{moved_rect-has}
use Rattle.flat_layout.specs.Layout.{InFlatInput, Some_of}
use Rattle.flat_laws.proofs.Squares.{same_square}
use Rattle.cell_graph.specs.declared.cells.Place.{Place}
use Rattle.cell_graph.specs.Linked.{Linked, IsSound, IsStep, cell_at, hull_of, motion_at, places_at, plain}
use Rattle.cell_graph.proofs.Bridge.{hulls, reference_at}
use Rattle.cell_context.specs.Arrays.{IsAlone, IsNearArray}
use Rattle.cell_context.specs.declared.arrays.Visit.{Visit}
use Rattle.cell_context.specs.Over.{AreVisited, IsThrough, IsVisit}
use Rattle.cell_context.specs.Visits.{IsVisited}
use Rattle.cell_context.proofs.Gathering.{some_at, visit_lower}
use Rattle.cell_graph.proofs.Growing.{grown_none}
use Rattle.cell_context.proofs.Visiting.{some_last, some_more, wider}
use Rattle.deep_tables.specs.Entries.{downward_cell}
use Rattle.zone_phase.specs.declared.neighbours.Neighbour.{Neighbour}
use Rattle.zone_phase.specs.declared.uses.Use.{Use}
use Rattle.zone_phase.specs.Neighbours.{AreAllNear, AreNeighbours, BringsMore, IsAllNear, IsNeighbour, IsOverBy, IsPutOnce, IsSeenAs, LieAlike, LiesSo, Listed, StandAlike, StandsAgain, alone}
use Rattle.zone_phase.specs.Siblings.{IsBroughtTo}
use Rattle.zone_phase.proofs.Around.{none_times}
use Rattle.zone_phase.proofs.Using.{one_use}
use Rattle.cell_context.proofs.Collecting.{one_place}
use Rattle.std.proofs.Math.Decide.{ℕ_discrete}

motion_of : Turn → ℤ → ℤ → Motion
motion_of turn dx dy = record { turn = turn; dx = dx; dy = dy }

-- motions of the same and_parts are one
pub same_motion : (m n : Motion) → (sameb the_type m.turn n.turn && (int_eq m.dx n.dx && int_eq m.dy n.dy)) ≡ true → m ≡ n
unfolding motion_of
same_motion m n e =
    let a = and_parts (sameb the_type m.turn n.turn) (int_eq m.dx n.dx && int_eq m.dy n.dy) e in
    let b = and_parts (int_eq m.dx n.dx) (int_eq m.dy n.dy) a.1 in
    let turn : m.turn ≡ n.turn = same_true the_type (search rules) m.turn n.turn a.0 in
    let dx = (Decides-int_eq m.dx n.dx).0 b.0 in
    let dy = (Decides-int_eq m.dy n.dy).0 b.1 in
    ap (λ t. motion_of t m.dx m.dy) turn ∙ ap (λ x. motion_of n.turn x m.dy) dx ∙ ap (motion_of n.turn n.dx) dy

-- an element of a list
pub some_here : {A : Type 0} (P : A → Type 0) (xs : List A) (k : ℕ) (x : A) → slice_get xs k ≡ Some x → P x → Some_of P xs
some_here P [] k x at h = absurd (let z : ⊥ = cc in z)
some_here P (y ∷ xs) zero x at h = inl (let e : x ≡ y = cc in subst P e h)
some_here P (y ∷ xs) (suc k) x at h = inr (some_here P xs k x at h)

still : (t d a b : ℤ) → a ≡ pos 0 → b ≡ pos 0 → t +ℤ ((d +ℤ a) +ℤ b) ≡ t +ℤ d
still t d a b e f = omega (arith, ints)

pub first_moved : (p : Place) (s : Square) → moved_square (motion_at p 0 0) s ≡ moved_square p.motion s
first_moved p s = same_square (moved_square (motion_at p 0 0) s) (moved_square p.motion s)
    (still _ p.motion.dx (pos 0 *ℤ p.column_step.x) (pos 0 *ℤ p.row_step.x) (none_times p.column_step.x) (none_times p.row_step.x))
    (still _ p.motion.dy (pos 0 *ℤ p.column_step.y) (pos 0 *ℤ p.row_step.y) (none_times p.column_step.y) (none_times p.row_step.y))

none_below : (n k : ℕ) → n ≡ 1 → k < n → k ≡ 0
none_below n k e lt = omega arith

some_below : (n : ℕ) → n ≡ 1 → 0 < n
some_below n e = omega arith

-- a placement by itself has one element
pub only : (d : Linked) (p : Place) (key : LayerKey) (s : Square) → IsAlone p → IsBroughtTo d p key s → (r : Square) × InFlatInput (plain d) p.cell key r × (moved_square p.motion r ≡ s)
only d p key s (a, b) h =
    let i : h.row ≡ 0 = none_below p.rows h.row a h.row_in in
    let j : h.column ≡ 0 = none_below p.columns h.column b h.column_in in
    (h.square, h.flat, sym (first_moved p h.square) ∙ subst (λ k. moved_square (motion_at p k 0) h.square ≡ s) i (subst (λ k. moved_square (motion_at p h.row k) h.square ≡ s) j h.image))

pub brought : (d : Linked) (p : Place) (key : LayerKey) (s r : Square) → IsAlone p → InFlatInput (plain d) p.cell key r → moved_square p.motion r ≡ s → IsBroughtTo d p key s
brought d p key s r (a, b) flat e = record { row = 0; column = 0; row_in = some_below p.rows a; column_in = some_below p.columns b; square = r; flat = flat; image = first_moved p r ∙ e }

-- neighbours that lie alike bring the same
pub same_over : (d : Linked) (n m : Neighbour) (key : LayerKey) (q : Square) → IsAlone n.other → IsAlone m.other → LieAlike n m → LiesSo n → LiesSo m → IsOverBy d key q n → IsOverBy d key q m
same_over d n m key q a b (cell, rel) h g o =
    let r = only d n.other key (moved_square (motion_at n.place 0 0) q) a o in
    let e : moved_square (motion_at n.place 0 0) (moved_square n.relative r.0) ≡ moved_square (motion_at n.place 0 0) q = h.squares r.0 ∙ r.2 in
    let f : moved_square n.relative r.0 ≡ q = different_images (motion_at n.place 0 0) (moved_square n.relative r.0) q e in
    let f' : moved_square m.relative r.0 ≡ q = ap (λ (x : Motion). moved_square x r.0) rel ∙ f in
    let k : moved_square m.other.motion r.0 ≡ moved_square (motion_at m.place 0 0) q = sym (g.squares r.0) ∙ ap (moved_square (motion_at m.place 0 0)) f' in
    brought d m.other key (moved_square (motion_at m.place 0 0) q) r.0 b (subst (λ c. InFlatInput (plain d) c key r.0) (sym cell) r.1) k

tail_of : (d : Linked) (uses : List Use) (m : Neighbour) (list : List Neighbour) → AreNeighbours d uses (m ∷ list) → AreNeighbours d uses list
tail_of d uses m list h k n at = h (suc k) n at

alike_over : (d : Linked) (uses : List Use) (n : Neighbour) (key : LayerKey) (q : Square) (list : List Neighbour) → IsNeighbour d uses n → AreNeighbours d uses list → IsOverBy d key q n → Some_of (LieAlike n) list → Some_of (IsOverBy d key q) list
alike_over d uses n key q [] is are o h = absurd h
alike_over d uses n key q (m ∷ list) is are o (inl h) = let g = are 0 m refl in inl (same_over d n m key q is.single g.single h is.lies g.lies o)
alike_over d uses n key q (m ∷ list) is are o (inr h) = inr (alike_over d uses n key q list is (tail_of d uses m list are) o h)

-- a neighbour that was put once
pub put_each : (d : Linked) (uses : List Use) (old new : List Neighbour) (n : Neighbour) → IsPutOnce old new n → IsNeighbour d uses n → AreNeighbours d uses old → AreNeighbours d uses new
put_each d uses old new n (inr (e, h)) is are = subst (AreNeighbours d uses) (sym e) are
put_each d uses old new n (inl e) is are = λ k m at. elim (push_cases old n m k (subst (λ (l : List Neighbour). slice_get l k ≡ Some m) e at)) [
  | inl a ↦ are k m a
  | inr b ↦ subst (IsNeighbour d uses) b.1 is
]

pub put_more : (d : Linked) (old new : List Neighbour) (n : Neighbour) → IsPutOnce old new n → BringsMore d old new
put_more d old new n (inl e) key q h = subst (Some_of (IsOverBy d key q)) (sym e) (some_more (IsOverBy d key q) old (n ∷ []) h)
put_more d old new n (inr (e, g)) key q h = subst (Some_of (IsOverBy d key q)) (sym e) h

pub put_here : (d : Linked) (uses : List Use) (old new : List Neighbour) (n : Neighbour) (key : LayerKey) (q : Square) → IsPutOnce old new n → IsNeighbour d uses n → AreNeighbours d uses old → IsOverBy d key q n → Some_of (IsOverBy d key q) new
put_here d uses old new n key q (inl e) is are o = subst (Some_of (IsOverBy d key q)) (sym e) (some_last (IsOverBy d key q) old n o)
put_here d uses old new n key q (inr (e, h)) is are o = subst (Some_of (IsOverBy d key q)) (sym e) (alike_over d uses n key q old is are o h)

none_within : (k : ℕ) → k < 1 → IsWithin (2 ^ 38) (pos k *ℤ pos 0)
none_within k lt =
    let e : k ≡ 0 = omega arith in
    let z : pos k *ℤ pos 0 ≡ pos 0 = ap (λ j. pos j *ℤ pos 0) e ∙ none_times (pos 0) in
    record { low = omega (arith, ints); high = omega (arith, ints) }

near_alone : (cell : ℕ) (m : Motion) → IsWithin (2 ^ 36) m.dx → IsWithin (2 ^ 36) m.dy → IsNearArray (alone cell m)
near_alone cell m x y = record {
  dx = wider (2 ^ 36) (2 ^ 39) m.dx (omega arith) x;
  dy = wider (2 ^ 36) (2 ^ 39) m.dy (omega arith) y;
  column_x = none_within;
  column_y = none_within;
  row_x = none_within;
  row_y = none_within;
}

-- what is visited near a placement is its neighbour
pub seen_neighbour : (d : Linked) (uses : List Use) (u : Use) (parent : ℕ) (place : Place) (w : Rect) (v : Visit) (n : Neighbour) → IsSound d → Listed uses u → parent ≡ downward_cell d u.job
    → slice_get (places_at (cell_at d parent)) u.index ≡ Some place → IsAlone place → IsVisit 0 d parent (Some u.index) w v → IsSeenAs place v n → IsNeighbour d uses n
seen_neighbour d uses u parent place w v n sound at up there apart h seen = record {
  at = at.0;
  found = u;
  there = at.1;
  placed = subst (λ c. slice_get (places_at (cell_at d c)) u.index ≡ Some n.place) up (there ∙ ap Some (sym seen.place_is));
  apart = subst IsAlone (sym seen.place_is) apart;
  inside = subst (λ c. c < length d.cells) (ap (λ (p : Place). p.cell) (sym seen.other)) (visit_lower 0 d parent (Some u.index) w v sound h).0;
  near = let element = (reference_at d parent h.index h.from sound h.step.there).2.elements h.row h.column h.step.row_in h.step.column_in in subst IsNearArray (sym seen.other) (near_alone v.cell v.motion (subst (λ (m : Motion). IsWithin (2 ^ 36) m.dx) (sym h.motion_is) element.dx) (subst (λ (m : Motion). IsWithin (2 ^ 36) m.dy) (sym h.motion_is) element.dy));
  single = single;
  lies = seen.lies;
  through = λ key q o. subst (λ c. IsThrough d c (Some u.index) key (moved_square (motion_at n.place 0 0) q)) up (through key q o);
}
  where
    single : IsAlone n.other
    single = subst IsAlone (sym seen.other) (refl, refl)

    through : (key : LayerKey) (q : Square) → IsOverBy d key q n → IsThrough d parent (Some u.index) key (moved_square (motion_at n.place 0 0) q)
    through key q o =
        let r = only d n.other key (moved_square (motion_at n.place 0 0) q) single o in
        record {
          index = h.index;
          row = h.row;
          column = h.column;
          from = h.from;
          step = h.step;
          kept = h.kept;
          square = r.0;
          flat = subst (λ c. InFlatInput (plain d) c key r.0) (ap (λ (p : Place). p.cell) seen.other ∙ h.cell_is) r.1;
          image = ap (λ (m : Motion). moved_square m r.0) (sym (ap (λ (p : Place). p.motion) seen.other ∙ h.motion_is)) ∙ r.2;
        }

-- the visit's flat squares that come to where the placement takes q are brought by a neighbour
abbrev pub BringsVisit : Linked → Place → Visit → List Neighbour → Type 0
BringsVisit d place v list = (key : LayerKey) (q r : Square) → InFlatInput (plain d) v.cell key r → moved_square v.motion r ≡ moved_square (motion_at place 0 0) q → Some_of (IsOverBy d key q) list

pub visit_here : (d : Linked) (uses : List Use) (old new : List Neighbour) (place : Place) (v : Visit) (n : Neighbour) → IsPutOnce old new n → IsNeighbour d uses n → AreNeighbours d uses old → IsSeenAs place v n → BringsVisit d place v new
visit_here d uses old new place v n put is are seen key q r flat image =
    put_here d uses old new n key q put is are
    (brought d n.other key (moved_square (motion_at n.place 0 0) q) r is.single (subst (λ c. InFlatInput (plain d) c key r) (ap (λ (p : Place). p.cell) (sym seen.other)) flat)
    (ap (λ (p : Place). moved_square p.motion r) seen.other ∙ image ∙ ap (λ (p : Place). moved_square (motion_at p 0 0) q) (sym seen.place_is)))

-- all that is over the placement is brought
pub all_near : (d : Linked) (parent index : ℕ) (place : Place) (g w : Rect) (list : List Neighbour) (vs : List Visit) (none : Visit) → IsSound d → IsRect g → w ≡ moved_rect (motion_at place 0 0) g
    → ((k : ℕ) → k < length vs → BringsVisit d place (slice_index_or vs k none) list) → AreVisited 0 d parent (Some index) w vs → IsAllNear d g parent index place list
all_near d parent index place g w list vs none sound some is brings visited key q inner t =
    let held = (grown_none (hull_of (cell_at d t.from.cell)) t.square).1 (hulls d sound t.from.cell key t.square t.flat) in
    let inside : has w (moved_square (motion_at place 0 0) q) ≡ true = subst (λ x. has x (moved_square (motion_at place 0 0) q) ≡ true) (sym is) (moved_rect-has (motion_at place 0 0) g q some ∙ inner) in
    let s = some_at (IsVisited t.from t.row t.column t.square) vs none (visited t.index t.row t.column t.from t.square t.step t.kept held (subst (λ x. has w x ≡ true) (sym t.image) inside)) in
    brings s.0 s.1 key q t.square (subst (λ c. InFlatInput (plain d) c key t.square) (sym s.2.cell) t.flat) (ap (λ (m : Motion). moved_square m t.square) s.2.motion ∙ t.image)

same_index : (i j : ℕ) → Some i ≡ Some j → i ≡ j
same_index i j e = cc

-- what is over a placement is over another that stands there alike
over_again : (d : Linked) (parent i j : ℕ) (p o : Place) (key : LayerKey) (q : Square) → slice_get (places_at (cell_at d parent)) i ≡ Some p → slice_get (places_at (cell_at d parent)) j ≡ Some o → IsAlone p → StandAlike o p
    → IsThrough d parent (Some i) key (moved_square (motion_at p 0 0) q) → IsThrough d parent (Some j) key (moved_square (motion_at o 0 0) q)
over_again d parent i j p o key q at at_too apart h t = elim (ℕ_discrete t.index j) [
  | no not ↦ record { index = t.index; row = t.row; column = t.column; from = t.from; step = t.step; kept = λ e. not (sym (same_index j t.index e)); square = t.square; flat = t.flat; image = t.image ∙ here }
  | yes e ↦
      let from : t.from ≡ o = one_place (slice_get (places_at (cell_at d parent)) j) t.from o (subst (λ k. slice_get (places_at (cell_at d parent)) k ≡ Some t.from) e t.step.there) at_too in
      let was : IsBroughtTo d t.from key (moved_square (motion_at p 0 0) q) = record { row = t.row; column = t.column; row_in = t.step.row_in; column_in = t.step.column_in; square = t.square; flat = t.flat; image = t.image } in
      let r = only d o key (moved_square (motion_at p 0 0) q) h.apart (subst (λ (x : Place). IsBroughtTo d x key (moved_square (motion_at p 0 0) q)) from was) in
      let step : IsStep d parent i 0 0 p = record { there = at; row_in = some_below p.rows apart.0; column_in = some_below p.columns apart.1 } in
      record {
        index = i;
        row = 0;
        column = 0;
        from = p;
        step = step;
        kept = λ f. t.kept (sym f ∙ ap Some (sym e));
        square = r.0;
        flat = subst (λ c. InFlatInput (plain d) c key r.0) h.cell r.1;
        image = first_moved p r.0 ∙ ap (λ (m : Motion). moved_square m r.0) (sym h.motion) ∙ r.2 ∙ here;
      }
]
  where
    here : moved_square (motion_at p 0 0) q ≡ moved_square (motion_at o 0 0) q
    here = first_moved p q ∙ ap (λ (m : Motion). moved_square m q) (sym h.motion) ∙ sym (first_moved o q)

-- so what is near it is near the other
near_alike : (d : Linked) (g : Rect) (parent i j : ℕ) (p o : Place) (list : List Neighbour) → slice_get (places_at (cell_at d parent)) i ≡ Some p → slice_get (places_at (cell_at d parent)) j ≡ Some o → IsAlone p → StandAlike o p
    → IsAllNear d g parent j o list → IsAllNear d g parent i p list
near_alike d g parent i j p o list at at_too apart h near key q inner t = near key q inner (over_again d parent i j p o key q at at_too apart h t)

-- and nothing has to be found for a placement that stands as an earlier one does
pub near_again : (d : Linked) (g : Rect) (uses : List Use) (at : ℕ) (u : Use) (p : Place) (list : List Neighbour) → slice_get uses at ≡ Some u → slice_get (places_at (cell_at d (downward_cell d u.job))) u.index ≡ Some p → IsAlone p
    → StandsAgain uses at (places_at (cell_at d (downward_cell d u.job))) p → AreAllNear d g uses at list → IsAllNear d g (downward_cell d u.job) u.index p list
near_again d g uses at u p list there placed apart h near =
    let same = one_use (slice_get uses at) h.this u h.this_there there in
    let job : h.found.job ≡ u.job = h.job ∙ ap (λ (x : Use). x.job) same in
    let other : slice_get (places_at (cell_at d (downward_cell d h.found.job))) h.found.index ≡ Some h.other = subst (λ k. slice_get (places_at (cell_at d (downward_cell d k))) h.found.index ≡ Some h.other) (sym job) h.placed in
    let was : IsAllNear d g (downward_cell d h.found.job) h.found.index h.other list = near h.earlier h.found h.before h.there h.other other h.alike.apart in
    let here : IsAllNear d g (downward_cell d u.job) h.found.index h.other list = subst (λ k. IsAllNear d g (downward_cell d k) h.found.index h.other list) job was in
    near_alike d g (downward_cell d u.job) u.index h.found.index p h.other list placed h.placed apart h.alike here
