use Rattle.std.proofs.Common.{length}
use Rattle.view_netlist.proofs.Shapes.{ShapesSoFar}
use Rattle.view_netlist.specs.Drawing.{origin}
use Rattle.view_netlist.proofs.drawing.push_shapes.Given as goal

abbrev pub invariant-shapes : goal.invariant-shapes
invariant-shapes l = ShapesSoFar l.layers l.out.items l.corner l.rest l.initial.out.items origin l.shapes

abbrev pub decreases-shapes : goal.decreases-shapes
decreases-shapes l = length l.rest
