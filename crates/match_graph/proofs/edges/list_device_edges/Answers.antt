use Rattle.std.proofs.Common.{arith, slice_index}
use Rattle.net_model.specs.Rows.{plain_circuit, plain_device}
use Rattle.plain_netlist.specs.Devices.{terminal_nets}
use Rattle.plain_netlist.proofs.Members.{listed}
use Rattle.std.proofs.lemmas.Option.{slice_get-get_or}
use Rattle.match_parts.specs.Rows.{AreTerminalsBelow}
use Rattle.match_parts.proofs.Read.{row}
use Rattle.match_graph.specs.Edges.{device_edges}
use Rattle.match_graph.proofs.Listed.{step}
use Rattle.match_graph.proofs.edges.list_device_edges.Goals as goal
use Rattle.match_graph.proofs.edges.list_device_edges.Goals.{After-index}

nets : (c : After-index) → AreTerminalsBelow (plain_device c.index.result.now) c.args.sizes.now.nets
nets c = c.requires.nets c.loop-k.k (plain_device c.index.result.now) (row plain_device c.args.circuit.now.devices.items c.loop-k.k c.index.result.now (omega arith) c.index.ensures)

pub push_device-requires : goal.push_device-requires
push_device-requires c i l =
    let on = terminal_nets (plain_device c.index.result.now) in
    let n = nets (goal.at.push_device-requires c).After-index (slice_index on i) (listed on i (slice_index on i) (slice_get-get_or on i 0 l)) in
    omega arith

pub loop-k-preserved : goal.loop-k-preserved
loop-k-preserved c =
    step (device_edges c.args.sizes.now.first) _ c.loop-k.k _ (plain_circuit c.args.circuit.now).devices (plain_device c.index.result.now) c.args.edges.now.items c.loop-k.edges.items c.push_device.new.edges.items
    (row plain_device c.args.circuit.now.devices.items c.loop-k.k c.index.result.now (omega arith) c.index.ensures) (omega arith) c.loop-k.invariant c.in_ok-push_device.ensures
