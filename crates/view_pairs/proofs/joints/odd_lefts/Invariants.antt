use Rattle.std.proofs.Common.{◌≡◌, ◌++◌, length}
use Rattle.view_pairs.specs.Joints.{odd_lefts}
use Rattle.view_pairs.proofs.joints.odd_lefts.Given as goal

abbrev pub invariant-joints : goal.invariant-joints
invariant-joints l = l.out.items ++ odd_lefts l.nets l.rest ≡ odd_lefts l.nets l.joints

abbrev pub decreases-joints : goal.decreases-joints
decreases-joints l = length l.rest
