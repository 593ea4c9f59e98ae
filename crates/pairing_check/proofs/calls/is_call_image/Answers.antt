use Rattle.std.proofs.Common.{length, arith}
use Rattle.match_laws.proofs.Sums.{index_below}
use Rattle.pairing_check.proofs.calls.is_call_image.Goals as goal

pub pins_go_to_pins-requires-clause-right : goal.pins_go_to_pins-requires-clause-right
pins_go_to_pins-requires-clause-right c i l =
    let one = c.requires.pins c.in-Some.pins.now c.in-Some.ensures.some in
    let count = one.count in
    let low = index_below c.in-Some.pins.now (length c.args.left.now.nets.items) (length c.args.left.now.nets.items) i one (omega arith) in
    let e = c.deref-in-Some.ensures.len in
    omega arith
