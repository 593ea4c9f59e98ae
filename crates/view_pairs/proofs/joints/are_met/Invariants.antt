use Rattle.std.proofs.Common.{◌≡◌, length}
use Rattle.std.specs.List.{list_all}
use Rattle.view_pairs.specs.Joints.{is_met}
use Rattle.view_pairs.proofs.joints.are_met.Given as goal

abbrev pub invariant-joints : goal.invariant-joints
invariant-joints l = list_all (is_met l.nets) l.joints ≡ list_all (is_met l.nets) l.rest

abbrev pub decreases-joints : goal.decreases-joints
decreases-joints l = length l.rest
