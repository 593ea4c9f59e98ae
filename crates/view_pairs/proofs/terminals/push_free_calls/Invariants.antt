use Rattle.std.proofs.Common.{◌≡◌, ◌++◌, length, map}
use Rattle.net_model.specs.Rows.{plain_call}
use Rattle.view_pairs.specs.Terminals.{call_nets, free_joints}
use Rattle.view_pairs.proofs.terminals.push_free_calls.Given as goal

abbrev pub invariant-calls : goal.invariant-calls
invariant-calls l = l.out.items ++ free_joints call_nets (map plain_call l.rights) l.rest
    ≡ l.initial.out.items ++ free_joints call_nets (map plain_call l.rights) l.free

abbrev pub decreases-calls : goal.decreases-calls
decreases-calls l = length l.rest
