use Rattle.std.proofs.Common.{◌≡◌, ◌<◌, ◌≤◌, Bool, List, length, slice_set, slice_index_or, ap, ◌∙◌, rules, arith}
use Rattle.net_model.specs.Rows.{plain_netlist}
use Rattle.net_align.specs.Walked.{holds}
use Rattle.net_align.proofs.Placed.{stands_at}
use Rattle.net_align.proofs.Walking.{hold_step, all_hold}
use Rattle.net_align.proofs.walk.holding.Goals as goal

pub index-requires : goal.index-requires
index-requires c =
    let i = c.loop-circuit.circuit-index in
    let below : i < length c.args.order.now = search rules in
    let l = (stands_at c.args.netlist.now c.requires i below).within in
    search rules

pub index_mut-requires : goal.index_mut-requires
index_mut-requires c =
    let order = c.args.order.now in
    let i = c.loop-circuit.circuit-index in
    let below : i < length order = search rules in
    let low = (stands_at c.args.netlist.now c.requires i below).low in
    let k = c.loop-circuit.invariant.long in
    let l : slice_index_or order i 0 < length c.loop-circuit.marks.items = omega (arith, low, k) in
    search rules

pub loop-circuit-preserved : goal.loop-circuit-preserved
loop-circuit-preserved c =
    let nl = plain_netlist c.args.netlist.now in
    let order = c.args.order.now in
    let i = c.loop-circuit.circuit-index in
    let a = slice_index_or order i 0 in
    let marks = c.loop-circuit.marks.items in
    let below : i < length order = search rules in
    let it = stands_at c.args.netlist.now c.requires i below in
    let circuit = it.circuit c.index.result.now c.index.ensures in
    let found : c.holds-found.result ≡ holds marks c.index.result.now = c.holds-found.ensures ∙ ap (λ (t : List Bool). holds t c.index.result.now) c.deref.ensures.value in
    hold_step nl order c.requires i a marks c.index.result.now it.at circuit c.loop-circuit.invariant
    (slice_set marks a c.holds-found.result) (ap (slice_set marks a) found)

pub returns : goal.returns
returns c =
    let order = c.args.order.now in
    let long : length order ≤ c.loop-circuit.circuit-index = search rules in
    all_hold (plain_netlist c.args.netlist.now) order c.requires c.loop-circuit.circuit-index c.loop-circuit.marks.items long c.loop-circuit.invariant
