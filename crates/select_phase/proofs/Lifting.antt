-- What goes up through the elements of an array, visit by visit.
use Rattle.std.proofs.Common.{◌≡◌, ◌⊎◌, ◌↔◌, inl, inr, ℕ, pos, Option, Some, None, ◌+◌, ◌<◌, ◌≤◌, true, ◌&&◌, List, get_or, length, map, slice_get, slice_index_or, refl, sym, ◌∙◌, ap, subst, arith}
use Rattle.std.proofs.Math.Decide.{ℕ_discrete}
use Rattle.std.proofs.lemmas.Bool.{and_from, and_parts, or_cases, or_right}
use Rattle.std.proofs.lemmas.List.{get_or_default}
use Rattle.std.proofs.lemmas.Option.{slice_get_within}
use Rattle.base_laws.proofs.Items.{one_entry}
use Rattle.geo_base.specs.Motions.{moved_square}
use Rattle.geo_base.specs.Rects.{has, moved_rect}
use Rattle.geo_base.specs.declared.motion.Motion.{Motion}
use Rattle.geo_base.specs.declared.motion.Turn.TheVariants.{R0}
use Rattle.geo_base.specs.declared.shapes.Rect.{Rect}
use Rattle.geo_base.specs.declared.shapes.Square.{Square}
use Rattle.geo_base.proofs.Images.{onto}
use Rattle.geo_base.proofs.Spans.{moved_rect-has}
use Rattle.rect_sets.specs.Rects.{covers}
use Rattle.flat_layout.specs.Arrays.{place_at}
use Rattle.flat_layout.specs.Layers.{IsLocal, reach}
use Rattle.flat_layout.specs.Layout as flat
use Rattle.cell_graph.specs.declared.cells.Place.{Place}
use Rattle.cell_graph.specs.Grown.{IsInGrown}
use Rattle.cell_graph.specs.Linked.{HullIsSound, IsSound, Linked, cell_at, hull_of, motion_at, places_at, plain, reference}
use Rattle.cell_graph.proofs.Bridge.{hull_sound, inside_has, placed_of, reference_at, step_of}
use Rattle.cell_graph.proofs.Elements.{number_of}
use Rattle.cell_graph.proofs.Growing.{grown_frame}
use Rattle.cell_context.specs.Arrays.{IsCloseArray}
use Rattle.cell_context.specs.Visits.{IsElementVisit, IsFound, IsMet, IsVisited}
use Rattle.cell_context.specs.declared.arrays.Visit.{Visit}
use Rattle.cell_context.proofs.Collecting.{close_array}
use Rattle.cell_context.proofs.Gathering.{Adds, no_visit, some_at, stays_there}
use Rattle.cell_context.proofs.Reaching.{element_within}
use Rattle.deep_tables.specs.Frames.{grown}
use Rattle.gate_phase.specs.Kept.{HoldsNear}
use Rattle.gate_phase.specs.Own.{IsHeldPart}
use Rattle.gate_phase.proofs.Keeping.{kept_grown}
use Rattle.gate_shapes.specs.Sets.{in_set}
use Rattle.select_laws.specs.Rest.{IsCandidate, IsRestBelow}
use Rattle.select_laws.specs.Selects.{Select, sight}
use Rattle.select_phase.specs.Found.{AreFoundBelow, rest_in, rest_of}
use Rattle.select_phase.specs.Lifted.{IsLifted, Lands, Lifts}
use Rattle.select_phase.specs.declared.cell.CellSelection.{CellSelection}

-- past the last reference
abbrev pub no_place : Place
no_place = record { cell = 0; motion = record { turn = R0; dx = pos 0; dy = pos 0 }; columns = 0; rows = 0; column_step = record { x = pos 0; y = pos 0 }; row_step = record { x = pos 0; y = pos 0 } }

-- an item that is there
pub there_found : (below : List (Option CellSelection)) (k : ℕ) (o : Option CellSelection) → k < length below → o ≡ get_or below k o → get_or below k None ≡ o
there_found below k o lt is = get_or_default below k None o lt ∙ sym is

-- the first n visits have been
pub record LiftsTo (p : Place) (set old : List Rect) (visits : List Visit) (n : ℕ) (new : List Rect) : Type 0 where
  pub each : (q : Square) → in_set new q → in_set old q ⊎ IsLifted p set q
  pub kept : (q : Square) → in_set old q → in_set new q
  pub all : (k : ℕ) → k < n → (s : Square) → in_set set s → in_set new (moved_square (slice_index_or visits k no_visit).motion s)

pub lifted_none : (p : Place) (set old : List Rect) (visits : List Visit) → LiftsTo p set old visits 0 old
lifted_none p set old visits = record { each = λ q e. inl e; kept = λ q e. e; all = λ k lt s e. absurd (let z : ⊥ = omega arith in z) }

module _ (p : Place) (frame plane : Rect) (set old before after : List Rect) (visits : List Visit) (n : ℕ) (is : IsElementVisit p frame plane (slice_index_or visits n no_visit)) (lands : Lands p set plane) (adds : Adds before after set (slice_index_or visits n no_visit).motion plane) where
  abbrev m : Motion
  m = (slice_index_or visits n no_visit).motion

  lifted : (s q : Square) → in_set set s → moved_square m s ≡ q → IsLifted p set q
  lifted s q e image = record {
    row = is.row;
    column = is.column;
    row_in = is.row_in;
    column_in = is.column_in;
    square = s;
    has = e;
    image = ap (λ (v : Motion). moved_square v s) (sym is.motion) ∙ image;
  }

  keeps : (q : Square) → in_set before q → in_set after q
  keeps q e = stays_there before after set m plane adds q e

  here : (s : Square) → in_set set s → in_set after (moved_square m s)
  here s e =
      let inside = lands (moved_square m s) (lifted s (moved_square m s) e refl) in
      adds s ∙ or_right (covers before (moved_square m s)) (covers set s && has plane (moved_square m s)) (and_from (covers set s) (has plane (moved_square m s)) e inside)

  pub lifted_more : LiftsTo p set old visits n before → LiftsTo p set old visits (n + 1) after
  lifted_more h = record {
    each = λ q e.
        let o = onto m q in
        let there = subst (λ y. in_set after y) (sym o.1) e in
        elim (or_cases (covers before (moved_square m o.0)) (covers set o.0 && has plane (moved_square m o.0)) (sym (adds o.0) ∙ there)) [
          | inl a ↦ h.each q (subst (λ y. in_set before y) o.1 a)
          | inr b ↦ inr (lifted o.0 q ((and_parts (covers set o.0) (has plane (moved_square m o.0)) b).0) o.1)
        ];
    kept = λ q e. keeps q (h.kept q e);
    all = λ k lt s e. elim (ℕ_discrete k n) [
      | yes same ↦ subst (λ (i : ℕ). in_set after (moved_square (slice_index_or visits i no_visit).motion s)) (sym same) (here s e)
      | no not ↦ keeps (moved_square (slice_index_or visits k no_visit).motion s) (h.all k (omega (arith, not)) s e)
    ];
  }

pub lifted_all : (p : Place) (frame plane : Rect) (set old new : List Rect) (visits : List Visit) (n : ℕ) → length visits ≤ n → ((q : Square) → in_set set q → has frame q ≡ true) → Lands p set plane
    → ((row column : ℕ) (q : Square) → row < p.rows → column < p.columns → IsMet p frame plane row column q → IsFound p row column q visits) → LiftsTo p set old visits n new → Lifts p set old new
lifted_all p frame plane set old new visits n end held lands found h = record {
  each = h.each;
  kept = h.kept;
  all = λ q l.
      let met : IsMet p frame plane l.row l.column l.square = record { inner = held l.square l.has; outer = subst (λ y. has plane y ≡ true) (sym l.image) (lands q l) } in
      let s = some_at (IsVisited p l.row l.column l.square) visits no_visit (found l.row l.column l.square l.row_in l.column_in met) in
      let lt = s.1 in
      let m : moved_square (slice_index_or visits s.0 no_visit).motion l.square ≡ q = ap (λ (v : Motion). moved_square v l.square) s.2.motion ∙ l.image in
      subst (λ y. in_set new y) m (h.all s.0 (omega arith) l.square l.has);
}

-- where the set has no square none goes up
pub lifts_none : (p : Place) (set old : List Rect) → ((q : Square) → in_set set q → ⊥) → Lifts p set old old
lifts_none p set old none = record { each = λ q e. inl e; kept = λ q e. e; all = λ q l. absurd (none l.square l.has) }

-- an element takes a grown hull into the plane
moved_in : (n : ℕ) (o : Option Rect) (p : Place) (row column : ℕ) (s : Square) (plane : Rect) → n ≤ 20001 → HullIsSound o → HoldsNear plane → IsCloseArray p → row < p.rows → column < p.columns → IsInGrown n o s
    → has plane (moved_square (motion_at p row column) s) ≡ true
moved_in n None p row column s plane most sound all near a b h = absurd h
moved_in n (Some g) p row column s plane most sound all near a b h =
    let m = motion_at p row column in
    let frame = grown_frame n g most sound in
    inside_has (moved_rect m (grown n g)) plane (moved_square m s) (all (moved_rect m (grown n g)) (element_within p row column (grown n g) near a b frame.near))
    (moved_rect-has m (grown n g) s frame.some ∙ h)

pub lands_held : (d : Linked) (cell i n : ℕ) (p : Place) (set : List Rect) (plane : Rect) → IsSound d → n ≤ 10000 → slice_get (places_at (cell_at d cell)) i ≡ Some p → HoldsNear plane → IsHeldPart n d p.cell set → Lands p set plane
lands_held d cell i n p set plane sound most there all held q l =
    subst (λ y. has plane y ≡ true) l.image
    (moved_in n (hull_of (cell_at d p.cell)) p l.row l.column l.square plane (omega (arith, most)) (hull_sound d p.cell sound) all (close_array d cell i p sound there) l.row_in l.column_in (held l.square l.has))

-- an element of one of the first n references takes a square of its cell's set to q
pub record IsLiftedFrom (places : List Place) (sets : ℕ → List Rect) (n : ℕ) (q : Square) : Type 0 where
  pub at : ℕ
  pub place : Place
  pub below : at < n
  pub there : slice_get places at ≡ Some place
  pub lifted : IsLifted place (sets place.cell) q

-- the first squares, and those that go up from the first n references
pub record LiftedTo (places : List Place) (sets : ℕ → List Rect) (first : List Rect) (n : ℕ) (out : List Rect) : Type 0 where
  pub each : (q : Square) → in_set out q → in_set first q ⊎ IsLiftedFrom places sets n q
  pub kept : (q : Square) → in_set first q → in_set out q
  pub all : (q : Square) → IsLiftedFrom places sets n q → in_set out q

module _ (places : List Place) (sets : ℕ → List Rect) (first : List Rect) where
  pub none_lifted : LiftedTo places sets first 0 first
  none_lifted = record { each = λ q e. inl e; kept = λ q e. e; all = λ q l. let lt = l.below in absurd (let z : ⊥ = omega arith in z) }

  pub more_lifted : (n : ℕ) (p : Place) (old new : List Rect) → slice_get places n ≡ Some p → Lifts p (sets p.cell) old new → LiftedTo places sets first n old → LiftedTo places sets first (n + 1) new
  more_lifted n p old new at lifts h = record {
    each = λ q e. elim (lifts.each q e) [
      | inl a ↦ elim (h.each q a) [ inl b ↦ inl b | inr l ↦ inr (later q l) ]
      | inr l ↦ inr (record { at = n; place = p; below = omega arith; there = at; lifted = l })
    ];
    kept = λ q e. lifts.kept q (h.kept q e);
    all = λ q l. elim (ℕ_discrete l.at n) [
      | yes e ↦
          let same : l.place ≡ p = one_entry (slice_get places n) l.place p (subst (λ (k : ℕ). slice_get places k ≡ Some l.place) e l.there) at in
          lifts.all q (subst (λ (r : Place). IsLifted r (sets r.cell) q) same l.lifted)
      | no not ↦ (let lt = l.below in lifts.kept q (h.all q (record { at = l.at; place = l.place; below = omega (arith, not); there = l.there; lifted = l.lifted })))
    ];
  }
    where
      later : (q : Square) → IsLiftedFrom places sets n q → IsLiftedFrom places sets (n + 1) q
      later q l = let lt = l.below in record { at = l.at; place = l.place; below = omega arith; there = l.there; lifted = l.lifted }

module _ (d : Linked) (x : Select) (cell : ℕ) (sound : IsSound d) (found : List (Option CellSelection)) (below : AreFoundBelow (plain d) x cell found) where
  -- what goes up from a placed cell lies in its grown hull
  pub rest_held : (i : ℕ) (p : Place) → slice_get (places_at (cell_at d cell)) i ≡ Some p → IsHeldPart (reach x.region) d p.cell (rest_in found p.cell)
  rest_held i p there q e =
      let ref = (reference_at d cell i p sound there).2 in
      let v = below _ (place_at (reference p) 0 0) (placed_of d cell i 0 0 p (record { there = there; row_in = ref.rows; column_in = ref.columns })) in
      let has : in_set v.0.rest q = subst (λ o. in_set (rest_of o) q) v.1 e in
      kept_grown d p.cell x.region q sound ((v.2.rest q).0 has).kept

  module _ (first out : List Rect) (local : (q : Square) → in_set first q ↔ IsLocal (plain d) cell x.region q) (n : ℕ) (end : length (places_at (cell_at d cell)) ≤ n) (h : LiftedTo (places_at (cell_at d cell)) (rest_in found) first n out) where
    from_below : (q : Square) → IsLiftedFrom (places_at (cell_at d cell)) (rest_in found) n q → IsRestBelow (plain d) x.joint (sight x) cell q
    from_below q l =
        let place = place_at (reference l.place) l.lifted.row l.lifted.column in
        let placed = placed_of d cell l.at l.lifted.row l.lifted.column l.place (record { there = l.there; row_in = l.lifted.row_in; column_in = l.lifted.column_in }) in
        let v = below _ place placed in
        let has : in_set v.0.rest l.lifted.square = subst (λ o. in_set (rest_of o) l.lifted.square) v.1 l.lifted.has in
        record {
          number = number_of (map reference (places_at (cell_at d cell))) l.at (reference l.place) l.lifted.row l.lifted.column;
          place = place;
          square = l.lifted.square;
          placed = placed;
          rest = (v.2.rest l.lifted.square).0 has;
          image = l.lifted.image;
        }

    to_lifted : (q : Square) → IsRestBelow (plain d) x.joint (sight x) cell q → IsLiftedFrom (places_at (cell_at d cell)) (rest_in found) n q
    to_lifted q b =
        let t = step_of d cell b.number b.place b.placed in
        let v = below b.number b.place b.placed in
        let has : in_set (rest_in found b.place.cell) b.square = subst (λ o. in_set (rest_of o) b.square) (sym v.1) ((v.2.rest b.square).1 b.rest) in
        let lt = slice_get_within (places_at (cell_at d cell)) t.index t.from t.step.there in
        record {
          at = t.index;
          place = t.from;
          below = omega (arith, end);
          there = t.step.there;
          lifted = record {
            row = t.row;
            column = t.column;
            row_in = t.step.row_in;
            column_in = t.step.column_in;
            square = b.square;
            has = subst (λ (y : flat.Place). in_set (rest_in found y.cell) b.square) t.is has;
            image = ap (λ (y : flat.Place). moved_square y.motion b.square) (sym t.is) ∙ b.image;
          };
        }

    -- these are the candidates
    pub are_candidates : (q : Square) → in_set out q ↔ IsCandidate (plain d) x.joint (sight x) cell q
    are_candidates q = (
      (λ e. elim (h.each q e) [ inl a ↦ inl ((local q).0 a) | inr l ↦ inr (from_below q l) ]),
      (λ c. elim c [ inl a ↦ h.kept q ((local q).1 a) | inr b ↦ h.all q (to_lifted q b) ]),
    )
