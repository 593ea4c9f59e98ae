use Rattle.std.proofs.Common.{◌+◌, ◌++◌, ◌∷◌, [], map, take, arith, ap, sym, ◌∙◌}
use Rattle.match_laws.specs.Circuits.{Own}
use Rattle.net_model.specs.Rows.{plain_circuit, plain_device}
use Rattle.match_parts.proofs.Read.{row}
use Rattle.match_graph.specs.Kinds.{device_own}
use Rattle.match_graph.proofs.Numbered.{adds_more, owns_more}
use Rattle.match_graph.proofs.kinds.Kinds.add_devices.Goals as goal

pub loop-k-preserved : goal.loop-k-preserved
loop-k-preserved c =
    let all = (plain_circuit c.args.circuit.now).devices in
    adds_more c.args.self.now c.loop-k.self c.add.new.self (map device_own (take c.loop-k.k all)) (map device_own (take (c.loop-k.k + 1) all)) _
    c.loop-k.invariant c.in_ok-add.ensures
    (owns_more device_own all c.loop-k.k (plain_device c.index.result.now) (row plain_device c.args.circuit.now.devices.items c.loop-k.k c.index.result.now (omega arith) c.index.ensures)
    ∙ ap (λ (own : Own). map device_own (take c.loop-k.k all) ++ own ∷ []) (sym c.device_own.ensures))
