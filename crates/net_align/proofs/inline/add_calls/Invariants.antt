use Rattle.std.proofs.Common.{◌≡◌, ◌++◌, map, take, slice_index}
use Rattle.net_model.specs.Rows.{plain_call}
use Rattle.net_align.specs.Laid.{call_put}
use Rattle.net_align.proofs.inline.add_calls.Given as goal

abbrev pub invariant-loop-row : goal.invariant-loop-row
invariant-loop-row l = map plain_call l.calls.items ≡ map plain_call l.fn.calls.items ++ map (call_put (slice_index l.to)) (take l.row-index l.inner)
