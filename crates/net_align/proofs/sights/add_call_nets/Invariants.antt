use Rattle.std.proofs.Common.{◌≡◌, ◌++◌, map, take}
use Rattle.std.specs.Prelude.{flat_map}
use Rattle.call_order.specs.Order.{lists}
use Rattle.net_model.specs.Rows.{plain_call}
use Rattle.net_align.specs.Sights.{call_nets}
use Rattle.net_align.proofs.sights.add_call_nets.Given as goal

abbrev pub invariant-loop-call : goal.invariant-loop-call
invariant-loop-call l = l.nets.items ≡ l.fn.nets.items ++ flat_map (call_nets l.numbers (lists l.held)) (map plain_call (take l.call-index l.calls))
