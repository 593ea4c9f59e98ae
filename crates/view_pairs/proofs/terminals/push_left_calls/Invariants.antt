use Rattle.std.proofs.Common.{◌≡◌, ◌++◌, length, map}
use Rattle.net_model.specs.Rows.{plain_call}
use Rattle.view_pairs.specs.Joints.{call_joints}
use Rattle.view_pairs.specs.Rows.{pins_of}
use Rattle.view_pairs.specs.Terminals.{call_nets, left_joints}
use Rattle.view_pairs.proofs.terminals.push_left_calls.Given as goal

abbrev pub invariant-calls : goal.invariant-calls
invariant-calls l = l.out.items ++ left_joints call_nets (call_joints (pins_of l.before)) (map plain_call l.rights) (map plain_call l.calls) l.rest
    ≡ l.initial.out.items ++ left_joints call_nets (call_joints (pins_of l.before)) (map plain_call l.rights) (map plain_call l.lefts) l.entries

abbrev pub decreases-calls : goal.decreases-calls
decreases-calls l = length l.calls
