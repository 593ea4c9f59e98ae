use Rattle.std.proofs.Common.{◌+◌, List, Option, Some, None, get_or, slice_index, arith, refl, sym, subst}
use Rattle.base_laws.proofs.Lists.{map_count}
use Rattle.std.proofs.lemmas.List.{map-set}
use Rattle.job_graph.proofs.Inputs.{item_has}
use Rattle.net_phase.proofs.Listing.{long_push}
use Rattle.deep_tables.specs.declared.nets.CellNets.{CellNets}
use Rattle.net_phase.proofs.Results.{AreReadTo, none_read, read_all, read_more}
use Rattle.net_phase.proofs.reading.read_nets.Goals as goal
use Rattle.net_phase.specs.Reading.{nets_of, now_of}

pub loop-init : goal.loop-init
loop-init g c = rw c.new-nets.ensures.items refl

pub loop-preserved : goal.loop-preserved
loop-preserved g c =
    let long = long_push c.loop.nets.items None in
    let i = c.loop.invariant in
    rw c.in_ok-push.ensures.items (omega (arith, long, i))

pub loop-input-init : goal.loop-input-init
loop-input-init g c =
    let nets = c.loop.nets.items in
    let long = map_count now_of nets in
    let i = c.loop.invariant in
    none_read (g.R.Reads.value c.args.reads.now) c.args.inputs.now c.args.order.now c.args.cells (nets_of nets) (omega (arith, long, i))

pub get-requires : goal.get-requires
get-requires g c = c.requires.may (get_or c.args.inputs.now c.loop-input.input-index 0) (item_has c.args.inputs.now c.loop-input.input-index 0 (omega arith))

pub bounds-order-input : goal.bounds-order-input
bounds-order-input g c = c.requires.jobs (get_or c.args.inputs.now c.loop-input.input-index 0) (item_has c.args.inputs.now c.loop-input.input-index 0 (omega arith))

pub index_mut-requires : goal.index_mut-requires
index_mut-requires g c =
    let input = get_or c.args.inputs.now c.loop-input.input-index 0 in
    let within = c.requires.cells input (c.requires.jobs input (item_has c.args.inputs.now c.loop-input.input-index 0 (omega arith))) in
    let long = c.loop-input.invariant.long in
    let same = map_count now_of c.loop-input.nets.items in
    omega (arith, within, long, same)

pub loop-input-preserved : goal.loop-input-preserved
loop-input-preserved g c =
    let inputs = c.args.inputs.now in
    let order = c.args.order.now in
    let n = c.loop-input.input-index in
    let input = get_or inputs n 0 in
    let nets = c.loop-input.nets.items in
    let is = item_has inputs n 0 (omega arith) in
    let more = read_more (g.R.Reads.value c.args.reads.now) inputs order c.args.cells n (nets_of nets) c.get.result.now (omega arith) is (c.requires.cells input (c.requires.jobs input is)) c.get.ensures c.loop-input.invariant in
    subst (λ (l : List (Option CellNets)). AreReadTo (g.R.Reads.value c.args.reads.now) inputs order c.args.cells (n + 1) l) (sym (map-set now_of nets (slice_index order input) (Some c.get.result))) more

pub returns : goal.returns
returns g c = λ d r right.
    read_all (g.R.Reads.value c.args.reads.now) d r c.args.inputs.now c.args.order.now c.args.cells c.loop-input.input-index (nets_of c.loop-input.nets.items) (omega arith) c.loop-input.invariant right
