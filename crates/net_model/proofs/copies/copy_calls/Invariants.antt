use Rattle.std.proofs.Common.{◌≡◌, map, take}
use Rattle.net_model.specs.Rows.{plain_call}
use Rattle.net_model.proofs.copies.copy_calls.Given as goal

abbrev pub invariant-loop-row : goal.invariant-loop-row
invariant-loop-row l = map plain_call l.copy.items ≡ map plain_call (take l.row-index l.calls)
