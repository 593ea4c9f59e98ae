use Rattle.std.proofs.Common.{length}
use Rattle.view_drawing.proofs.Listing.{ShapesSoFar}
use Rattle.view_drawing.proofs.nets.net_shapes.Given as goal

abbrev pub invariant-pieces : goal.invariant-pieces
invariant-pieces l = ShapesSoFar l.count l.numbers l.lists.items l.rest l.pieces

abbrev pub decreases-pieces : goal.decreases-pieces
decreases-pieces l = length l.rest
