use Rattle.std.proofs.Common.{map}
use Rattle.net_model.specs.Rows.{plain_circuit}
use Rattle.match_graph.specs.Kinds.{name_in, net_owns, device_own, call_own}
use Rattle.match_graph.proofs.Numbered.{adds_then}
use Rattle.match_graph.proofs.kinds.Kinds.add_circuit.Goals as goal

pub returns : goal.returns
returns c =
    let plain = plain_circuit c.args.circuit.now in
    adds_then c.args.self.now c.add_devices.new.self c.add_calls.new.self _ (map call_own (plain_circuit c.args.circuit.now).calls)
    (adds_then c.args.self.now c.add_nets.new.self c.add_devices.new.self (net_owns (name_in c.args.names.now) (plain_circuit c.args.circuit.now)) (map device_own (plain_circuit c.args.circuit.now).devices) c.in_ok-add_nets.ensures c.in_ok-add_devices.ensures)
    c.in_ok-add_calls.ensures
