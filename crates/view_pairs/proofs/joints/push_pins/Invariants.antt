use Rattle.std.proofs.Common.{◌≡◌, ◌++◌, ◌+◌, length}
use Rattle.view_pairs.specs.Joints.{pin_joints}
use Rattle.view_pairs.proofs.joints.push_pins.Given as goal

abbrev pub invariant-pins : goal.invariant-pins
invariant-pins l = (l.out.items ++ pin_joints l.pins l.k l.rest l.rights ≡ l.initial.out.items ++ pin_joints l.pins 0 l.lefts l.rights)
    × (l.k + length l.rest ≡ length l.lefts)

abbrev pub decreases-pins : goal.decreases-pins
decreases-pins l = length l.rest
