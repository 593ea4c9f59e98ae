use Rattle.std.proofs.Common.{◌≡◌, ◌++◌, length}
use Rattle.view_pairs.specs.Joints.{lone_joints}
use Rattle.view_pairs.proofs.joints.push_lone.Given as goal

abbrev pub invariant-nets : goal.invariant-nets
invariant-nets l = l.out.items ++ lone_joints l.side l.rest ≡ l.initial.out.items ++ lone_joints l.side l.nets

abbrev pub decreases-nets : goal.decreases-nets
decreases-nets l = length l.rest
