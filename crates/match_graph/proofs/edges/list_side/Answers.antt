use Rattle.std.proofs.Common.{ℕ, subst, sym}
use Rattle.net_model.specs.Rows.{plain_circuit}
use Rattle.match_parts.specs.Rows.{AreDevicesOn}
use Rattle.match_graph.proofs.edges.list_side.Goals as goal

pub list_device_edges-requires-clause-nets : goal.list_device_edges-requires-clause-nets
list_device_edges-requires-clause-nets c = subst (λ (n : ℕ). AreDevicesOn (plain_circuit c.args.circuit.now) n) (sym c.requires.sizes.nets) c.requires.devices
