-- What of a layout's circuits reaches 2^30 or more from the origin, so that they can't be drawn.
use Rattle.std.specs.Prelude.{◌≡◌, ℕ, true, List, Option, Some, None, slice_get}
use Rattle.cell_graph.specs.Linked.{plain}
use Rattle.flat_layout.specs.Layout.{IsReached, Some_of}
use Rattle.flat_layout.specs.Nets.{Tables}
use Rattle.part_origins.specs.Inside.{PlainInside}
use Rattle.part_origins.specs.Made.{PlainOrigins}
use Rattle.view_drawing.specs.Calls.{has_circuit}
use Rattle.view_drawing.specs.Devices.{Area}
use Rattle.view_drawing.specs.Far.{ReachesFar}
use Rattle.view_drawing.specs.declared.source.Source.{Source}
use Rattle.view_joined.specs.Far.{JoinsFar}
use Rattle.view_shapes.specs.ReadLaws.{Called}
use Rattle.view_netlist.specs.declared.drawing.Drawing.{Drawing}

-- something of a cell with a circuit, which the top reaches
pub record HasFarCell (s : Source) (t : Tables) (called : Called) : Type 0 where
  pub cell : ℕ
  pub reached : IsReached (plain s.design.now) cell
  pub circuit : has_circuit s.circuits.now cell ≡ true
  pub far : ReachesFar s t called cell

-- something that is moved, of the circuits inside an aligned one of this origin
abbrev pub IsFarOf : Option PlainInside → List Drawing → List Area → PlainOrigins → Type 0
IsFarOf None drawings areas o = ⊥
IsFarOf (Some x) drawings areas o = JoinsFar x o drawings areas

abbrev pub IsFarJoined : List PlainInside → List Drawing → List Area → PlainOrigins → Type 0
IsFarJoined xs drawings areas o = IsFarOf (slice_get xs o.circuit) drawings areas o

abbrev pub HasFarJoined : List PlainInside → List PlainOrigins → List Drawing → List Area → Type 0
HasFarJoined xs os drawings areas = Some_of (IsFarJoined xs drawings areas) os
