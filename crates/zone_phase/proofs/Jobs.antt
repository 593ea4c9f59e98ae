-- A cell's zone from the references to it.
use Rattle.std.proofs.Common.{◌≡◌, ◌↔◌, ◌⊎◌, inl, inr, ℕ, suc, ◌<◌, true, refl, arith, List, [], ◌∷◌, Option, Some, None, sym, ◌∙◌, ap, subst, length, slice_get}
use Rattle.std.proofs.lemmas.Option.{slice_get_within}
use Rattle.geo_base.specs.Motions.{moved_square}
use Rattle.geo_base.specs.Rects.{has}
use Rattle.geo_base.specs.declared.layer.LayerKey.{LayerKey}
use Rattle.geo_base.specs.declared.shapes.Rect.{Rect}
use Rattle.geo_base.specs.declared.shapes.Square.{Square}
use Rattle.rect_sets.specs.Rects.{covers}
use Rattle.flat_layout.specs.Layout.{IsReached, IsDisturbed, Some_of}
use Rattle.std.proofs.Math.Decide.{ℕ_discrete}
use Rattle.cell_graph.specs.declared.cells.Place.{Place}
use Rattle.cell_graph.specs.Linked.{Linked, IsSound, IsStep, plain, motion_at, hull_of, cell_at, places_at}
use Rattle.cell_context.specs.Arrays.{IsAlone}
use Rattle.cell_context.specs.Over.{IsOver, IsThrough}
use Rattle.cell_context.proofs.Collecting.{one_place}
use Rattle.deep_laws.proofs.Zones.{array_zones}
use Rattle.deep_tables.specs.declared.zones.CellZones.{CellZones}
use Rattle.deep_tables.specs.Frames.{IsFramedZone, IsInGrown, grown}
use Rattle.deep_tables.specs.Entries.{downward_cell}
use Rattle.zone_phase.specs.declared.uses.Use.{Use}
use Rattle.zone_phase.specs.declared.neighbours.Neighbour.{Neighbour}
use Rattle.zone_phase.specs.Jobs.{zone_in, IsFromUses}
use Rattle.zone_phase.specs.Neighbours.{AreAllNear, AreNeighbours, IsNeighbour, IsOverBy, WhyHere}
use Rattle.zone_phase.specs.Pulls.{Why}
use Rattle.zone_phase.specs.Uses.{AreUsesOf}
use Rattle.zone_phase.proofs.Steps.{grown_up}

in_grown : (margin : ℕ) (o : Option Rect) (hull g : Rect) (q : Square) → o ≡ Some hull → g ≡ grown margin hull → has g q ≡ true → IsInGrown margin o q
in_grown margin o hull g q e f h = subst (λ x. IsInGrown margin x q) (sym e) (subst (λ r. has r q ≡ true) f h)

has_grown : (margin : ℕ) (o : Option Rect) (hull g : Rect) (q : Square) → o ≡ Some hull → g ≡ grown margin hull → IsInGrown margin o q → has g q ≡ true
has_grown margin o hull g q e f h = subst (λ r. has r q ≡ true) (sym f) (subst (λ x. IsInGrown margin x q) e h)

-- what is brought here is brought
weaker : (d : Linked) (zone : List Rect) (parent index : ℕ) (key : LayerKey) (p : Place) (row column : ℕ) (q : Square) → WhyHere zone d parent index key p row column q → Why zone d parent index key p row column q
weaker d zone parent index key p row column q (inl z) = inl z
weaker d zone parent index key p row column q (inr (inl (inl o))) = inr (inl (inl o))
weaker d zone parent index key p row column q (inr (inl (inr t))) = inr (inl (inr t.1))
weaker d zone parent index key p row column q (inr (inr s)) = inr (inr s)

one_alone : (p : Place) → IsAlone p ⊎ (IsAlone p → ⊥)
one_alone p = elim (ℕ_discrete p.rows 1) [
  | no n ↦ inr (λ h. n h.0)
  | yes e ↦ elim (ℕ_discrete p.columns 1) [ yes f ↦ inl (e, f) | no n ↦ inr (λ h. n h.1) ]
]

first_only : (n k : ℕ) → n ≡ 1 → k < n → k ≡ 0
first_only n k e lt = omega arith

neighbour_at : (d : Linked) (uses : List Use) (key : LayerKey) (q : Square) (near : List Neighbour) → AreNeighbours d uses near → Some_of (IsOverBy d key q) near → (n : Neighbour) × IsNeighbour d uses n × IsOverBy d key q n
neighbour_at d uses key q [] are h = absurd h
neighbour_at d uses key q (n ∷ near) are (inl o) = (n, are 0 n refl, o)
neighbour_at d uses key q (n ∷ near) are (inr h) = neighbour_at d uses key q near (λ k m at. are (suc k) m at) h

pub use_step : (margin : ℕ) (d : Linked) (value : ℕ → Option CellZones) (name cell : ℕ) (key : LayerKey) (hull g : Rect) (uses : List Use) (near : List Neighbour) (zone : List Rect) → IsSound d → hull_of (cell_at d cell) ≡ Some hull → g ≡ grown margin hull
    → ((k : ℕ) (u : Use) → slice_get uses k ≡ Some u → IsReached (plain d) (downward_cell d u.job) × IsFramedZone margin d (key ∷ []) (downward_cell d u.job) (zone_in (value u.job) name))
    → AreUsesOf d cell uses → AreNeighbours d uses near → AreAllNear d g uses (length uses) near
    → ((q : Square) → (covers zone q ≡ true) ↔ (IsFromUses d value name cell key g uses (length uses) q ⊎ ((has g q ≡ true) × Some_of (IsOverBy d key q) near))) → IsFramedZone margin d (key ∷ []) cell zone
use_step margin d value name cell key hull g uses near zone sound is wide right all are every made q = (to, from)
  where
    of_use : IsFromUses d value name cell key g uses (length uses) q → IsDisturbed (plain d) (key ∷ []) cell q × IsInGrown margin (hull_of (cell_at d cell)) q
    of_use h =
        let b = h.brings in
        let r = right h.at h.found h.there in (
          (array_zones d sound cell key q).1 (record {
            parent = downward_cell d h.found.job;
            index = h.found.index;
            row = b.row;
            column = b.column;
            from = b.from;
            reached = r.0;
            step = b.step;
            here = b.here;
            why = elim (weaker d _ _ _ key b.from b.row b.column q b.why) [
              | inl z ↦ inl ((r.1 (moved_square (motion_at b.from b.row b.column) q)).0 z).0
              | inr o ↦ inr o
            ];
          }),
          in_grown margin (hull_of (cell_at d cell)) hull g q is wide b.inner,
        )

    of_neighbour : has g q ≡ true → Some_of (IsOverBy d key q) near → IsDisturbed (plain d) (key ∷ []) cell q × IsInGrown margin (hull_of (cell_at d cell)) q
    of_neighbour inner h =
        let n = neighbour_at d uses key q near are h in
        let b = n.1 in
        let r = right b.at b.found b.there in
        let used = all.each b.at b.found b.there in
        let same = one_place (slice_get (places_at (cell_at d (downward_cell d b.found.job))) b.found.index) used.place n.0.place used.there b.placed in (
          (array_zones d sound cell key q).1 (record {
            parent = downward_cell d b.found.job;
            index = b.found.index;
            row = 0;
            column = 0;
            from = n.0.place;
            reached = r.0;
            step = record { there = b.placed; row_in = (let e = b.apart.0 in omega arith); column_in = (let e = b.apart.1 in omega arith) };
            here = subst (λ (p : Place). p.cell ≡ cell) same used.here;
            why = inr (inl (inr (b.through key q n.2)));
          }),
          in_grown margin (hull_of (cell_at d cell)) hull g q is wide inner,
        )

    to : covers zone q ≡ true → IsDisturbed (plain d) (key ∷ []) cell q × IsInGrown margin (hull_of (cell_at d cell)) q
    to e = elim ((made q).0 e) [ inl h ↦ of_use h | inr h ↦ of_neighbour h.0 h.1 ]

    from : IsDisturbed (plain d) (key ∷ []) cell q × IsInGrown margin (hull_of (cell_at d cell)) q → covers zone q ≡ true
    from (h, i) =
        let b = (array_zones d sound cell key q).0 h in
        let up = grown_up margin d b.parent b.index b.row b.column b.from q sound b.step (subst (λ c. IsInGrown margin (hull_of (cell_at d c)) q) (sym b.here) i) in
        let j = all.all b.parent b.index b.from b.reached b.step.there b.here in
        let u = j.2.found in
        let at : downward_cell d u.job ≡ b.parent = ap (downward_cell d) j.2.job ∙ j.1 in
        let r = right j.2.at u j.2.there in
        let m = moved_square (motion_at b.from b.row b.column) q in
        let inner = has_grown margin (hull_of (cell_at d cell)) hull g q is wide i in
        let step : IsStep d (downward_cell d u.job) u.index b.row b.column b.from =
        subst (λ i. IsStep d (downward_cell d u.job) i b.row b.column b.from) (sym j.2.index) (subst (λ c. IsStep d c b.index b.row b.column b.from) (sym at) b.step) in
        let brought : WhyHere (zone_in (value u.job) name) d (downward_cell d u.job) u.index key b.from b.row b.column q → covers zone q ≡ true = λ why.
        (made q).1 (inl (record {
          at = j.2.at;
          found = u;
          at_in = slice_get_within uses j.2.at u j.2.there;
          there = j.2.there;
          brings = record { row = b.row; column = b.column; from = b.from; step = step; here = b.here; inner = inner; why = why };
        })) in
        elim b.why [
          | inl z ↦ brought (inl ((r.1 m).1 (subst (λ c. IsDisturbed (plain d) (key ∷ []) c m) (sym at) z, subst (λ c. IsInGrown margin (hull_of (cell_at d c)) m) (sym at) up)))
          | inr o ↦ elim o [
            | inr y ↦ brought (inr (inr y))
            | inl x ↦ elim (subst (λ n. IsOver d (downward_cell d u.job) (Some n) key m) (sym j.2.index) (subst (λ c. IsOver d c (Some b.index) key m) (sym at) x)) [
              | inl mine ↦ brought (inr (inl (inl mine)))
              | inr t ↦ elim (one_alone b.from) [
                | inr not ↦ brought (inr (inl (inr (not, t))))
                | inl one ↦
                    let e : b.row ≡ 0 = first_only b.from.rows b.row one.0 b.step.row_in in
                    let f : b.column ≡ 0 = first_only b.from.columns b.column one.1 b.step.column_in in
                    let t' : IsThrough d (downward_cell d u.job) (Some u.index) key (moved_square (motion_at b.from 0 0) q) =
                    subst (λ k. IsThrough d (downward_cell d u.job) (Some u.index) key (moved_square (motion_at b.from k 0) q)) e
                    (subst (λ k. IsThrough d (downward_cell d u.job) (Some u.index) key (moved_square (motion_at b.from b.row k) q)) f t) in
                    (made q).1 (inr (inner, every j.2.at u (slice_get_within uses j.2.at u j.2.there) j.2.there b.from step.there one key q inner t'))
              ]
            ]
          ]
        ]

-- a cell without squares has no zone
pub no_zone : (margin : ℕ) (d : Linked) (cell : ℕ) (key : LayerKey) (zone : List Rect) → None ≡ hull_of (cell_at d cell) → ((q : Square) → covers zone q ≡ true → ⊥) → IsFramedZone margin d (key ∷ []) cell zone
no_zone margin d cell key zone e none q = ((λ h. absurd (none q h)), λ h. absurd (subst (λ o. IsInGrown margin o q) (sym e) h.1))
