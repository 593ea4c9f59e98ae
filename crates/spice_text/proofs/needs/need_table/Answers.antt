use Rattle.std.proofs.Common.{refl, subst, map, List, ℕ}
use Rattle.std.specs.Prelude.{slice_index_or}
use Rattle.std.proofs.lemmas.List.{take_all}
use Rattle.call_order.specs.Order.{lists}
use Rattle.spice_text.specs.Table.{AreSettled}
use Rattle.spice_text.specs.Seen.{circuit_seen}
use Rattle.spice_text.proofs.NeedLemmas.{none_settled, order_lt_cards, order_lt_calls, order_lt_rows, settled_more, table_is}
use Rattle.spice_text.proofs.needs.need_table.Goals as goal

pub order-init : goal.order-init
order-init c = none_settled c.args.circuits.now c.args.globals.now.table c.in_ok-rows.rows.items c.in_ok-rows.ensures

pub settle-requires-clause-circuit : goal.settle-requires-clause-circuit
settle-requires-clause-circuit c = order_lt_cards c.args.circuits.now c.args.order.now c.order.i c.requires.order c.order-test.true

pub settle-requires-clause-called : goal.settle-requires-clause-called
settle-requires-clause-called c = order_lt_calls c.args.circuits.now c.args.calls.now c.args.order.now c.order.i c.requires.calls c.requires.order c.order-test.true

pub settle-requires-clause-row : goal.settle-requires-clause-row
settle-requires-clause-row c = order_lt_rows c.args.circuits.now c.args.globals.now.table c.args.order.now _ c.order.rows.items c.order.i c.order.invariant c.requires.order c.order-test.true

pub order-preserved : goal.order-preserved
order-preserved c = settled_more (map circuit_seen c.args.circuits.now) (lists c.args.calls.now) c.args.globals.now.table c.args.order.now c.order.i (slice_index_or c.args.order.now c.order.i 0) (lists c.order.rows.items) (lists c.settle.new.rows.items)
    c.requires.calls c.requires.order c.order-test.true refl c.order.invariant c.in_ok-settle.ensures

pub returns : goal.returns
returns c = table_is (map circuit_seen c.args.circuits.now) c.args.globals.now.table c.args.order.now (lists c.order.rows.items) c.requires.order
    (subst (λ (done : List ℕ). AreSettled (map circuit_seen c.args.circuits.now) c.args.globals.now.table done (lists c.order.rows.items)) (take_all c.order.i c.args.order.now c.order-test.false) c.order.invariant)
