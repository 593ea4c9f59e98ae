use Rattle.cell_graph.proofs.Bridge.{heights}
use Rattle.cell_graph.specs.Linked.{height_at, plain}
use Rattle.deep_flow.proofs.pins.derive_pins.Goals as goal
use Rattle.deep_tables.proofs.Together.{right_gates, right_nets}
use Rattle.deep_tables.specs.Gates.{gates_of}
use Rattle.deep_tables.specs.Nets.{tables_of}
use Rattle.flat_laws.proofs.Above.{flat_gates}
use Rattle.rule_layers.specs.Meaning.{device_rules, wiring_of}
use Rattle.rule_text.specs.Seen.{rules_seen}

pub returns-clause-right : goal.returns-clause-right
returns-clause-right g c =
    right_nets (plain c.args.design.now) (rules_seen c.args.rules.now) c.in_ok-layers.layers c.in_ok-found.found.nets c.in_ok-layers.ensures c.in_ok-found.ensures.nets

pub returns-clause-flat : goal.returns-clause-flat
returns-clause-flat g c =
    let d = c.args.design.now in
    let r = rules_seen c.args.rules.now in
    let f = c.in_ok-found in
    let t = tables_of r c.in_ok-layers.layers f.found.nets in
    let right = right_nets (plain d) r c.in_ok-layers.layers f.found.nets c.in_ok-layers.ensures f.ensures.nets in
    flat_gates (plain d) (wiring_of r) t (device_rules r) (gates_of f.found.gates) (height_at d) (heights d c.sound.ensures) (right_gates (plain d) r t f.found.gates right f.ensures.gates)
