use Rattle.std.proofs.Common.{◌≡◌, map, take}
use Rattle.std.specs.Prelude.{flat_map}
use Rattle.call_order.specs.Order.{lists}
use Rattle.net_model.specs.Rows.{plain_call}
use Rattle.net_align.specs.Sights.{new_of, short_call}
use Rattle.net_align.proofs.cut.cut_calls.Given as goal

abbrev pub invariant-loop-call : goal.invariant-loop-call
invariant-loop-call l = map plain_call l.rows.items ≡ flat_map (short_call l.numbers (lists l.held) (new_of l.nets.places.items)) (map plain_call (take l.call-index l.calls))
