use Rattle.std.proofs.Common.{◌≡◌, ◌∙◌, sym, ap, subst}
use Rattle.call_order.specs.Order.{lists, AreInRange, IsFound, IsCallOrder, IsFirstInCycle}
use Rattle.call_order.specs.declared.order.CallOrder.TheVariants.{CalleesFirst, Cycle}
use Rattle.cell_graph.specs.Parts.{called}
use Rattle.cell_graph.proofs.Looking.{parts_resolved, parts_no_loose}
use Rattle.cell_graph.proofs.Calling.{calls_in_range, draft_no_cycle, draft_first_cycle}
use Rattle.cell_graph.proofs.depths.from_below.Goals as goal

pub call_order-requires-clause-range : goal.call_order-requires-clause-range
call_order-requires-clause-range c =
    let rows : lists c.deref.result.now ≡ called c.args.parts.now = ap lists c.deref.ensures.value ∙ c.in_ok-rows.ensures {u = tt} in
    subst AreInRange (sym rows) (calls_in_range c.args.parts.now (parts_resolved c.args.cells.now c.args.parts.now c.requires.few c.requires.parts))

pub returns-in-CalleesFirst-clause-no_cycle : goal.returns-in-CalleesFirst-clause-no_cycle
returns-in-CalleesFirst-clause-no_cycle c =
    let rows : lists c.deref.result.now ≡ called c.args.parts.now = ap lists c.deref.ensures.value ∙ c.in_ok-rows.ensures {u = tt} in
    let found : IsFound (lists c.deref.result.now) (CalleesFirst c.in-CalleesFirst.order) = subst (IsFound (lists c.deref.result.now)) c.in-CalleesFirst.is (c.in_ok-order.ensures {u = tt}) in
    let order : IsCallOrder (called c.args.parts.now) c.in-CalleesFirst.order.items = subst (λ rs. IsCallOrder rs c.in-CalleesFirst.order.items) rows found in
    draft_no_cycle c.args.cells.now c.args.parts.now c.requires.once c.requires.parts c.in-CalleesFirst.order.items order

pub returns-clause-fault : goal.returns-clause-fault
returns-clause-fault c top =
    let rows : lists c.deref.result.now ≡ called c.args.parts.now = ap lists c.deref.ensures.value ∙ c.in_ok-rows.ensures {u = tt} in
    let found : IsFound (lists c.deref.result.now) (Cycle c.in-Cycle.i) = subst (IsFound (lists c.deref.result.now)) c.in-Cycle.is (c.in_ok-order.ensures {u = tt}) in
    let first : IsFirstInCycle (called c.args.parts.now) c.in-Cycle.i = subst (λ rs. IsFirstInCycle rs c.in-Cycle.i) rows found in (
      c.requires.few,
      c.requires.once,
      parts_no_loose c.args.cells.now c.args.parts.now c.requires.parts,
      (c.in-Cycle.i, c.in_ok-name_at-in-Cycle.ensures {u = tt}, draft_first_cycle c.args.cells.now c.args.parts.now c.requires.once c.requires.parts c.in-Cycle.i first),
    )
