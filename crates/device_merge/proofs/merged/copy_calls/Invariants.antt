use Rattle.std.proofs.Common.{◌≡◌, ◌++◌, map, length}
use Rattle.net_model.specs.Rows.{plain_call}
use Rattle.device_merge.proofs.merged.copy_calls.Given as goal

abbrev pub invariant-calls : goal.invariant-calls
invariant-calls l = map plain_call l.copy.items ++ map plain_call l.rest ≡ map plain_call l.calls

abbrev pub decreases-calls : goal.decreases-calls
decreases-calls l = length l.rest
