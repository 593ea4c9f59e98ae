-- Designs whose cells leave each square that something from elsewhere lies over.
use Rattle.std.proofs.Common.{◌≡◌, ℕ, ◌≤◌, List, sym, subst}
use Rattle.flat_layout.specs.Gates.{Geometry, IsReadBy, IsSoundGeometry, InGate, IsGateOrRing, IsSettled}
use Rattle.flat_layout.specs.Layers.{Formula, inputs, reach, InFlat, IsCalmAt, IsKept, IsLone, IsShutBy, IsStirred}
use Rattle.flat_layout.specs.Layout.{Design, Place, IsPlaced, IsReached}
use Rattle.flat_layout.specs.Parts.{Edges, InPart, IsCloseTo}
use Rattle.flat_layout.specs.Seeds.{IsCalmPart, IsGateThrough}
use Rattle.flat_layout.specs.declared.way.Way.TheVariants.{Disturbed}
use Rattle.geo_base.specs.declared.layer.LayerKey.{LayerKey}
use Rattle.geo_base.specs.Motions.{moved_square}
use Rattle.geo_base.specs.declared.shapes.Square.{Square}
use Rattle.flat_laws.proofs.Calm.{calm_fewer, calm_still, same_flat}
use Rattle.flat_laws.proofs.Joints.{region_self}
use Rattle.flat_laws.proofs.Kept.{close_in}
use Rattle.flat_laws.proofs.Lone.{near_disturbed}
use Rattle.flat_laws.proofs.Moves.{around_same, onto}
use Rattle.flat_laws.proofs.Once.{gate_self}
use Rattle.flat_laws.proofs.Through.{calm_through}

-- what isn't stirred is calm, in each way
pub calm_unstirred : (d : Design) (keys : List LayerKey) (n cell : ℕ) (q : Square) → (IsStirred d keys n cell q → ⊥) → IsCalmAt d keys n cell q
calm_unstirred d keys n cell q none = calm_still d keys n cell q (λ z near h. none (record { square = z; within = near; disturbed = h }))

module _ (d : Design) (undisturbed : d.way ≡ Disturbed) where
  -- and here nothing else is
  pub unstirred : (keys : List LayerKey) (n cell : ℕ) (q : Square) → IsCalmAt d keys n cell q → IsStirred d keys n cell q → ⊥
  unstirred keys n cell q calm h = subst (λ v. IsShutBy v d keys cell h.square) undisturbed (calm h.square h.within) h.disturbed

  -- where the name's reach is calm, others alone can't make it
  pub not_lone : (g : Geometry) (name : Formula) (cell : ℕ) (q : Square) → IsReadBy g name → IsCalmAt d g.keys g.reach cell q → IsLone d cell name q → ⊥
  not_lone g name cell q read calm h =
      let near = near_disturbed d cell name q h in
      let fewer = calm_fewer d (inputs name) g.keys (reach name) g.reach cell q read.reach read.keys calm in
      unstirred (inputs name) (reach name) cell q fewer (record { square = near.0; within = near.1; disturbed = near.2 })

  -- so a calm gate is settled
  pub settled_calm : (g : Geometry) (cell : ℕ) (s : Square) → IsSoundGeometry g → InFlat d cell g.region s → ((q : Square) → IsGateOrRing d g cell s q → IsCalmAt d g.keys g.reach cell q) → IsSettled d g cell s
  settled_calm g cell s sound is calm =
      let self = gate_self d g cell s is in
      record { is = is; calm = calm; mine = s; in_gate = self; alone = not_lone g g.region cell s sound (calm s (close_in d g cell s s self)) }

  pub calm_part : (g : Geometry) (cell : ℕ) (s : Square) → IsSoundGeometry g → IsKept d cell g.region s → ((q : Square) → IsCloseTo (InPart (IsKept d cell g.region) s) q → IsCalmAt d g.keys g.reach cell q) → IsCalmPart d g cell s
  calm_part g cell s sound is calm =
      let self = region_self Edges (IsKept d cell g.region) s is in
      record { calm = calm; mine = s; in_part = self; alone = not_lone g g.region cell s sound (calm s (record { square = s; in_part = self; around = around_same s })) }

  pub gate_through : (g : Geometry) (cell k : ℕ) (p : Place) (s : Square) → IsSoundGeometry g → IsReached d cell → IsPlaced d cell k p → InFlat d cell g.region s
      → ((q : Square) → IsGateOrRing d g cell s (moved_square p.motion q) → IsCalmAt d g.keys g.reach p.cell q) → IsGateThrough d g cell s p
  gate_through g cell k p s sound reached placed gate calm =
      let o = onto p.motion s in
      let self : InGate d g cell s (moved_square p.motion o.0) = subst (λ y. InGate d g cell s y) (sym o.1) (gate_self d g cell s gate) in
      let near = close_in d g cell s (moved_square p.motion o.0) self in
      calm_through d g cell k p s sound reached placed gate calm o.0 self (not_lone g g.region p.cell o.0 sound (calm o.0 near))
