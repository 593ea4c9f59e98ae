use Rattle.std.proofs.Common.{◌≡◌, ◌++◌, length}
use Rattle.view_pairs.specs.Joints.{other_joints}
use Rattle.view_pairs.proofs.joints.push_others.Given as goal

abbrev pub invariant-others : goal.invariant-others
invariant-others l = l.out.items ++ other_joints l.rest l.behind ≡ l.initial.out.items ++ other_joints l.lefts l.rights

abbrev pub decreases-others : goal.decreases-others
decreases-others l = length l.rest
