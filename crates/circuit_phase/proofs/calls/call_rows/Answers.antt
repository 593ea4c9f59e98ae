use Rattle.std.proofs.Common.{◌∙◌, ap, arith, length, map, refl, subst, sym}
use Rattle.deep_tables.specs.Nets.{plain_item, plain_nets}
use Rattle.deep_tables.specs.declared.nets.Item.{Item}
use Rattle.net_model.specs.Rows.{plain_call}
use Rattle.net_model.specs.declared.netlist.CallRow.{CallRow}
use Rattle.std.specs.Prelude.{List}
use Rattle.circuit_phase.proofs.Calling.{child_inside, child_of, net_low, rows_more, rows_none}
use Rattle.circuit_phase.proofs.calls.call_rows.Goals as goal

pub loop-k-init : goal.loop-k-init
loop-k-init g c =
    let p = c.args.placed.now in
    let v = plain_nets c.args.nets.now in
    rows_none (g.P.Placed.design p) (g.P.Placed.nets p) (g.P.Placed.pins p) (g.P.Placed.drawn p) (g.P.Placed.circuits p) c.args.cell v c.args.numbering.now.count c.args.numbering.now.nets c.own_count-start.result
    (map plain_item c.deref.result.now) (map plain_call c.in_ok-rows.rows.items) (ap (λ (l : List Item). map plain_item l) c.deref.ensures.value) c.own_count-start.ensures (ap (λ (l : List CallRow). map plain_call l) c.in_ok-rows.ensures.items)

pub push_call-requires-clause-may : goal.push_call-requires-clause-may
push_call-requires-clause-may g c =
    let p = c.args.placed.now in
    let r = child_of (g.P.Placed.design p) c.args.cell c.args.cells.now c.loop-k.k c.requires.cells c.loop-k-test.true in
    subst (λ e. g.P.Placed.may_read p e) (sym r.2) (c.requires.readable c.loop-k.k r.0 r.1)

pub push_call-requires-clause-long : goal.push_call-requires-clause-long
push_call-requires-clause-long g c =
    let p = c.args.placed.now in
    child_inside (g.P.Placed.design p) (g.P.Placed.wiring p) (g.P.Placed.nets p) c.args.cell (plain_nets c.args.nets.now) c.requires.right c.args.cells.now c.deref-in-loop-k.result.now c.loop-k.k c.loop-k.start c.requires.cells c.loop-k-test.true c.deref-in-loop-k.ensures.value c.loop-k.invariant.stands

pub push_call-requires-clause-within : goal.push_call-requires-clause-within
push_call-requires-clause-within g c =
    let p = c.args.placed.now in
    net_low (g.P.Placed.design p) (g.P.Placed.wiring p) (g.P.Placed.nets p) c.args.cell (plain_nets c.args.nets.now) c.requires.right c.deref-in-loop-k.result.now c.loop-k.numbering.count c.deref-in-loop-k.ensures.value (c.loop-k.invariant.same ∙ c.requires.within)

pub drawn-requires : goal.drawn-requires
drawn-requires g c =
    let p = c.args.placed.now in
    let r = child_of (g.P.Placed.design p) c.args.cell c.args.cells.now c.loop-k.k c.requires.cells c.loop-k-test.true in
    subst (λ e. g.P.Placed.may_read p e) (sym r.2) (c.requires.readable c.loop-k.k r.0 r.1)

pub overflow_add-start : goal.overflow_add-start
overflow_add-start g c =
    let p = c.args.placed.now in
    let low = child_inside (g.P.Placed.design p) (g.P.Placed.wiring p) (g.P.Placed.nets p) c.args.cell (plain_nets c.args.nets.now) c.requires.right c.args.cells.now c.args.nets.now.net_of.items c.loop-k.k c.loop-k.start c.requires.cells c.loop-k-test.true refl c.loop-k.invariant.stands in
    let e = ap length c.drawn.ensures.value in
    let f = c.drawn.ensures.count in
    let ok = c.args.nets.now.net_of.ok.0 in
    let fits = c.args.nets.now.net_of.ok.1 in
    let small = c.args.nets.now.net_of.small in
    omega arith

pub loop-k-preserved : goal.loop-k-preserved
loop-k-preserved g c =
    let p = c.args.placed.now in
    let v = plain_nets c.args.nets.now in
    rows_more (g.P.Placed.design p) (g.P.Placed.wiring p) (g.P.Placed.nets p) (g.P.Placed.pins p) (g.P.Placed.drawn p) (g.P.Placed.circuits p) c.args.cell v c.requires.right c.requires.nets c.args.cells.now c.requires.cells c.args.numbering.now.count c.args.numbering.now.nets
    c.loop-k.k c.loop-k.numbering.count c.push_call.new.numbering.count c.loop-k.numbering.nets c.push_call.new.numbering.nets c.loop-k.start (length c.drawn.result.now) c.deref-in-loop-k.result.now (map plain_call c.loop-k.rows.items) (map plain_call c.push_call.new.rows.items)
    c.loop-k-test.true c.deref-in-loop-k.ensures.value c.drawn.ensures.count (ap length c.drawn.ensures.value) c.in_ok-push_call.ensures.count c.in_ok-push_call.ensures.calls c.loop-k.invariant
