-- What of the circuits inside an aligned one reaches 2^30 or more from the origin when it is moved,
-- so that it can't be drawn.
use Rattle.std.specs.Prelude.{ℕ, List, []}
use Rattle.flat_layout.specs.Layout.{Some_of}
use Rattle.geo_base.specs.declared.motion.Motion.{Motion}
use Rattle.part_origins.specs.Inside.{PlainInside}
use Rattle.part_origins.specs.Made.{PlainOrigins}
use Rattle.view_drawing.specs.Devices.{Area}
use Rattle.view_drawing.specs.Far.{IsFar}
use Rattle.view_netlist.specs.declared.drawing.Drawing.{Drawing}
use Rattle.view_netlist.specs.declared.drawing.Shape.{Shape}
use Rattle.view_joined.specs.Devices.{IsFarDevice}
use Rattle.view_joined.specs.Nets.{IsNetShape}
use Rattle.view_joined.specs.Spots.{AreMotions, IsFarCallAt, IsFarSpot}

abbrev pub HasFarShape : List Shape → Type 0
HasFarShape shapes = Some_of (λ s. IsFar s.rect) shapes

-- the motion of a circuit inside; or else, as these are moved, a rectangle of a net, a call or a
-- device
pub data JoinsFar (x : PlainInside) (o : PlainOrigins) (drawings : List Drawing)
    (areas : List Area) : Type 0 where
  Spot : IsFarSpot x.spots drawings [] x.spots → JoinsFar x o drawings areas
  Net : (motions : List Motion) → AreMotions x.spots drawings [] x.spots motions
      → (q : ℕ) (t : Shape) → IsNetShape x.spots motions drawings o.nets q t → IsFar t.rect
      → JoinsFar x o drawings areas
  Call : (motions : List Motion) → AreMotions x.spots drawings [] x.spots motions
      → Some_of (IsFarCallAt x.spots drawings motions) o.calls → JoinsFar x o drawings areas
  Device : (motions : List Motion) → AreMotions x.spots drawings [] x.spots motions
      → Some_of (IsFarDevice x.spots drawings motions areas) o.devices
      → JoinsFar x o drawings areas
