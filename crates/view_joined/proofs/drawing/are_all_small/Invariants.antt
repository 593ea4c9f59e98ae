use Rattle.std.proofs.Common.{length}
use Rattle.std.specs.List.{All}
use Rattle.view_netlist.specs.Drawing.{AreSmallShapes}
use Rattle.flat_layout.specs.Layout.{Some_of}
use Rattle.view_joined.specs.Far.{HasFarShape}
use Rattle.view_joined.specs.Nets.{shape_lists}
use Rattle.view_joined.proofs.drawing.are_all_small.Given as goal

abbrev pub invariant-nets : goal.invariant-nets
invariant-nets l =
    (All AreSmallShapes (shape_lists l.rest) → All AreSmallShapes (shape_lists l.nets))
    × (Some_of HasFarShape (shape_lists l.rest) → Some_of HasFarShape (shape_lists l.nets))

abbrev pub decreases-nets : goal.decreases-nets
decreases-nets l = length l.rest
