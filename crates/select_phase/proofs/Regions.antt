-- Parts of the candidates: regions of the cell's own, or squares that go up.
use Rattle.std.proofs.Common.{◌↔◌, ℕ, List}
use Rattle.flat_layout.specs.Gates.{Geometry}
use Rattle.flat_layout.specs.Layers.{InFlat, IsKept}
use Rattle.flat_layout.specs.Layout.{Design, IsReached}
use Rattle.flat_layout.specs.Parts.{Joint, InRegion, IsCloseTo}
use Rattle.flat_laws.proofs.Joints.{region_has, region_between, region_on}
use Rattle.flat_laws.proofs.Leaving.{calm_unstirred}
use Rattle.flat_laws.proofs.Terminals.{keep}
use Rattle.geo_base.specs.declared.shapes.Rect.{Rect}
use Rattle.geo_base.specs.declared.shapes.Square.{Square}
use Rattle.gate_search.specs.Gather.{AreMet}
use Rattle.gate_shapes.specs.Sets.{in_set}
use Rattle.select_laws.specs.Layered.{IsOwnSelected}
use Rattle.select_laws.specs.Rest.{IsRest, IsCandidate, ArePartedSquares}
use Rattle.select_laws.specs.Selects.{Ask, Interacting, Overlapping, Inside, Outside, WithArea, Has, OnSide, Select, sight, region_at}
use Rattle.select_laws.specs.Whole.{IsWhole}
use Rattle.select_laws.proofs.Choice.{reads_region, reads_other, on_side}
use Rattle.select_laws.proofs.Rest.{candidate_law, kept_flat, rest_law}
use Rattle.select_laws.proofs.Staged.{close_same, has_same}
use Rattle.select_phase.specs.Beside.{IfOther, IsBeside}
use Rattle.select_phase.specs.Sorted.{IsCalmPart}

module _ (d : Design) (x : Select) (cell : ℕ) (reached : IsReached d cell) (parted : ArePartedSquares d (sight x) cell) where
  abbrev j : Joint
  j = x.joint

  abbrev g : Geometry
  g = sight x

  abbrev C : Square → Type 0
  C = IsCandidate d j g cell

  module _ (part : List Rect) (s : Square) (same : (q : Square) → in_set part q ↔ InRegion j C s q) where
    abbrev P : Square → Type 0
    P = in_set part

    abbrev IsCalm : Type 0
    IsCalm = IsCalmPart d x cell part

    pub candidate : (q : Square) → P q → C q
    candidate q e = region_has j C s q ((same q).0 e)

    -- it is the part of each of its squares
    same_at : (q : Square) → P q → (z : Square) → P z ↔ InRegion j C q z
    same_at q e z = (
      (λ f. region_between j C s q z ((same q).0 e) ((same z).0 f)),
      (λ h. (same z).1 (region_on j C s q z ((same q).0 e) h)),
    )

    back : (q : Square) → P q → (z : Square) → InRegion j C q z ↔ P z
    back q e z = let r = same_at q e z in (r.1, r.0)

    pub whole_at : (q : Square) → P q → IsCalm → IsWhole d j g cell q
    whole_at q e calm = (candidate_law d j g cell (reads_region x) reached parted q (candidate q e)).0.0 (λ z c. calm z (close_same (InRegion j C q) P (back q e) z c))

    pub calm_of : (q : Square) → P q → IsWhole d j g cell q → IsCalm
    calm_of q e whole = λ z c. (candidate_law d j g cell (reads_region x) reached parted q (candidate q e)).0.1 whole z (close_same P (InRegion j C q) (same_at q e) z c)

    -- a part that isn't calm goes up
    pub torn_at : (q : Square) → P q → (IsCalm → ⊥) → IsRest d j g cell q
    torn_at q e stirred = (rest_law d j g cell (reads_region x) reached parted q).torn (candidate q e) (λ w. stirred (calm_of q e w))

    module _ (calm : IsCalm) (close near : List Rect) (all : (q : Square) → in_set close q ↔ IsCloseTo P q) where
      -- close to the part what is kept of the other name is all of it
      near_is : AreMet (IsKept d cell x.other) close near → (z : Square) → IsCloseTo P z → in_set near z ↔ InFlat d cell x.other z
      near_is met z c = (
        (λ e. kept_flat d cell x.other z (met.sound z e)),
        (λ f. met.complete z (keep d g cell x.other z (reads_other x) (calm_unstirred d g.keys g.reach cell z (calm z c)) f) ((all z).1 c)),
      )

      region_is : (q : Square) → P q → (z : Square) → P z ↔ region_at d x cell q z
      region_is q e z =
          let law = (candidate_law d j g cell (reads_region x) reached parted q (candidate q e)).1 (whole_at q e calm) z in
          let r = same_at q e z in ((λ f. law.0 (r.0 f)), (λ h. r.1 (law.1 h)))

      regions_back : (q : Square) → P q → (z : Square) → region_at d x cell q z ↔ P z
      regions_back q e z = let r = region_is q e z in (r.1, r.0)

      by_near : (ask : Ask) → AreMet (IsKept d cell x.other) close near → (q : Square) → P q → Has ask P (in_set near) ↔ Has ask (region_at d x cell q) (InFlat d cell x.other)
      by_near ask met q e = has_same ask P (region_at d x cell q) (in_set near) (InFlat d cell x.other) (region_is q e) (λ z c. near_is met z (close_same (region_at d x cell q) P (regions_back q e) z c))

      asked : (ask : Ask) → IfOther ask (AreMet (IsKept d cell x.other) close near) → (q : Square) → P q → Has ask P (in_set near) ↔ Has ask (region_at d x cell q) (InFlat d cell x.other)
      asked Interacting met q e = by_near Interacting met q e
      asked Overlapping met q e = by_near Overlapping met q e
      asked Inside met q e = by_near Inside met q e
      asked Outside met q e = by_near Outside met q e
      asked (WithArea low high) met q e = has_same (WithArea low high) P (region_at d x cell q) (InFlat d cell x.other) (InFlat d cell x.other) (region_is q e) (λ z c. ((λ v. v), (λ v. v)))

      -- a region of the cell's own is chosen, or none of its squares is
      pub own_selected : IsBeside d x cell close near → (q : Square) → P q → OnSide x.side (Has x.ask P (in_set near)) ↔ IsOwnSelected d x cell q
      own_selected beside q e =
          let whole = whole_at q e calm in
          let side = on_side x.side (Has x.ask P (in_set near)) (Has x.ask (region_at d x cell q) (InFlat d cell x.other)) (asked x.ask beside q e) in (
            (λ h. record {
              own = (rest_law d j g cell (reads_region x) reached parted q).whole (candidate q e) whole;
              selected = record { is = whole.is; chosen = side.0 h };
            }),
            (λ h. side.1 h.selected.chosen),
          )
