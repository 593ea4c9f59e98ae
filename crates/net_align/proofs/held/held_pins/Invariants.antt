use Rattle.call_order.specs.Order.{lists}
use Rattle.net_align.specs.Kept.{AreHeldBelow}
use Rattle.net_align.proofs.held.held_pins.Given as goal

abbrev pub invariant-loop-circuit : goal.invariant-loop-circuit
invariant-loop-circuit g l = AreHeldBelow g.given.netlist g.given.flattening.flats l.numbers l.order l.circuit-index (lists l.held.items)
