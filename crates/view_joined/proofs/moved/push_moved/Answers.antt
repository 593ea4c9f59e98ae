use Rattle.std.proofs.Common.{pos}
use Rattle.view_netlist.specs.declared.drawing.Shape.{Shape}
use Rattle.view_joined.proofs.Small.{near_rect}
use Rattle.view_joined.proofs.moved.push_moved.Goals as goal

pub moved_rect-requires-clause-rect : goal.moved_rect-requires-clause-rect
moved_rect-requires-clause-rect c =
    let zero : Shape = record { layer = 0; rect = record { x1 = pos 0; y1 = pos 0; x2 = pos 0; y2 = pos 0 } } in
    near_rect _ (c.requires.small c.shapes.k zero c.shapes-test.true)
