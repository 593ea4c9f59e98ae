use Rattle.std.proofs.Common.{length}
use Rattle.view_netlist.specs.Drawing.{AreSmallShapes}
use Rattle.view_joined.specs.Far.{HasFarShape}
use Rattle.view_joined.proofs.drawing.are_small.Given as goal

abbrev pub invariant-shapes : goal.invariant-shapes
invariant-shapes l =
    (AreSmallShapes l.rest → AreSmallShapes l.shapes) × (HasFarShape l.rest → HasFarShape l.shapes)

abbrev pub decreases-shapes : goal.decreases-shapes
decreases-shapes l = length l.rest
