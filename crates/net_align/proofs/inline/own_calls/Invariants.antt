use Rattle.std.proofs.Common.{◌≡◌, map, take}
use Rattle.net_model.specs.Rows.{plain_call}
use Rattle.net_align.specs.Laid.{stayed, goes_of}
use Rattle.net_align.proofs.inline.own_calls.Given as goal

abbrev pub invariant-loop-call : goal.invariant-loop-call
invariant-loop-call l = map plain_call l.own.items ≡ stayed (goes_of l.goes) (map plain_call (take l.call-index l.calls))
