use Rattle.std.proofs.Common.{ℕ, List, refl, subst, arith}
use Rattle.flat_layout.specs.Circuits.{IsCircuitCell}
use Rattle.net_model.specs.Rows.{plain_netlist}
use Rattle.rule_text.specs.Seen.{rules_seen}
use Rattle.deep_flow.specs.Extracted.{HaveFewNets}
use Rattle.deep_tables.specs.declared.circuits.CellCircuit.{CellCircuit}
use Rattle.deep_flow.proofs.Drawing.{are_netlist, few_there, filled, has_nets, has_own, is_netlist, is_normal, is_sound, tabled, top_listed}
use Rattle.deep_flow.proofs.drawn.draw.Goals as goal

pub own_circuits-requires-clause-own : goal.own_circuits-requires-clause-own
own_circuits-requires-clause-own g c κs within =
    has_own c.args.design.now (rules_seen c.args.rules.now) c.args.gated.now.layers c.args.gated.now.nets c.requires.layers c.requires.nets

pub place_of-top-requires-clause-listed : goal.place_of-top-requires-clause-listed
place_of-top-requires-clause-listed g c =
    let t = tabled c.args.unit_pm c.args.design.now (rules_seen c.args.rules.now) c.in_ok-values.values.items c.sound.ensures c.in_ok-values.ensures.right in
    let h = filled c.args.unit_pm c.args.design.now (rules_seen c.args.rules.now) c.args.gated.now c.args.pins.now t.0 c.in_ok-cells.cells.items
    c.sound.ensures c.requires.layers c.requires.nets c.requires.gates c.requires.pins t.2 c.in_ok-cells.ensures in
    top_listed h c.deref-2.result.now c.top.result c.deref-2.ensures.value c.top.ensures

pub bad_gates-requires-clause-nets : goal.bad_gates-requires-clause-nets
bad_gates-requires-clause-nets g c =
    has_nets c.args.design.now (rules_seen c.args.rules.now) c.args.gated.now.layers c.args.gated.now.nets c.requires.layers c.requires.nets

pub returns-clause-netlist : goal.returns-clause-netlist
returns-clause-netlist g c =
    let t = tabled c.args.unit_pm c.args.design.now (rules_seen c.args.rules.now) c.in_ok-values.values.items c.sound.ensures c.in_ok-values.ensures.right in
    let h = filled c.args.unit_pm c.args.design.now (rules_seen c.args.rules.now) c.args.gated.now c.args.pins.now t.0 c.in_ok-cells.cells.items
    c.sound.ensures c.requires.layers c.requires.nets c.requires.gates c.requires.pins t.2 c.in_ok-cells.ensures in
    let are = are_netlist h c.in_ok-values.values.items (record { count = c.in_ok-values.ensures.count; by = t.1 }) c.in_ok-netlist.netlist.circuits.items c.in_ok-netlist.ensures in
    is_netlist h (plain_netlist c.in_ok-netlist.netlist) are c.place_of-top.result c.top.result
    (subst (λ (l : List ℕ). IsCircuitCell l c.place_of-top.result c.top.result) c.deref-2.ensures.value c.place_of-top.ensures) c.top.ensures

pub returns-clause-sound : goal.returns-clause-sound
returns-clause-sound g c =
    let t = tabled c.args.unit_pm c.args.design.now (rules_seen c.args.rules.now) c.in_ok-values.values.items c.sound.ensures c.in_ok-values.ensures.right in
    let h = filled c.args.unit_pm c.args.design.now (rules_seen c.args.rules.now) c.args.gated.now c.args.pins.now t.0 c.in_ok-cells.cells.items
    c.sound.ensures c.requires.layers c.requires.nets c.requires.gates c.requires.pins t.2 c.in_ok-cells.ensures in
    let are = are_netlist h c.in_ok-values.values.items (record { count = c.in_ok-values.ensures.count; by = t.1 }) c.in_ok-netlist.netlist.circuits.items c.in_ok-netlist.ensures in
    is_sound h (plain_netlist c.in_ok-netlist.netlist) are (let few = c.in_ok-number.ensures.few in omega (arith, few))
    (few_there h c.in_ok-values.values.items (record { count = c.in_ok-values.ensures.count; by = t.1 })
    (subst (λ (l : List CellCircuit). HaveFewNets l) c.deref.ensures.value (c.if-not-have_few_nets.ensures.0 refl)))

pub returns-clause-normal : goal.returns-clause-normal
returns-clause-normal g c =
    let t = tabled c.args.unit_pm c.args.design.now (rules_seen c.args.rules.now) c.in_ok-values.values.items c.sound.ensures c.in_ok-values.ensures.right in
    let h = filled c.args.unit_pm c.args.design.now (rules_seen c.args.rules.now) c.args.gated.now c.args.pins.now t.0 c.in_ok-cells.cells.items
    c.sound.ensures c.requires.layers c.requires.nets c.requires.gates c.requires.pins t.2 c.in_ok-cells.ensures in
    let are = are_netlist h c.in_ok-values.values.items (record { count = c.in_ok-values.ensures.count; by = t.1 }) c.in_ok-netlist.netlist.circuits.items c.in_ok-netlist.ensures in
    is_normal h (plain_netlist c.in_ok-netlist.netlist) are
