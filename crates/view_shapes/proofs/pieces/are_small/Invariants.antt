use Rattle.std.proofs.Common.{length}
use Rattle.view_shapes.specs.Pieces.{AreSmall, HasFar}
use Rattle.view_shapes.proofs.pieces.are_small.Given as goal

abbrev pub invariant-pieces : goal.invariant-pieces
invariant-pieces l =
    (AreSmall l.rest → AreSmall l.pieces) × (HasFar l.rest → HasFar l.pieces)

abbrev pub decreases-pieces : goal.decreases-pieces
decreases-pieces l = length l.rest
