use Rattle.std.proofs.Common.{ℕ, ◌==◌, List, get_or, length, ◌∙◌, ◌≤◌, ap, map, refl, subst, sym, take}
use Rattle.std.specs.List.{list_any}
use Rattle.std.proofs.lemmas.Bool.{eq-eqb}
use Rattle.std.proofs.lemmas.List.{map_push}
use Rattle.std.proofs.lemmas.List.Folds.{list_any_at}
use Rattle.base_laws.proofs.Items.{item_at}
use Rattle.deep_tables.specs.Gates.{plain_gate, plain_state}
use Rattle.deep_tables.specs.declared.gates.GateState.{GateState}
use Rattle.flat_layout.specs.GateTables.{GoodGate, verdict_nets}
use Rattle.net_model.specs.Rows.{plain_device}
use Rattle.net_model.specs.declared.netlist.DeviceRow.{DeviceRow}
use Rattle.rule_layers.specs.Meaning.{device_rules}
use Rattle.rule_text.specs.Seen.{rules_seen}
use Rattle.circuit_phase.specs.Devices.{gate_row}
use Rattle.circuit_phase.specs.Numbering.{AreNumbersOf}
use Rattle.circuit_phase.proofs.Adding.{good_added}
use Rattle.circuit_phase.proofs.Terminals.{device_on, few_nets}
use Rattle.circuit_phase.proofs.rows.push_device.Goals as goal

pub number_terminals-requires-clause-few : goal.number_terminals-requires-clause-few
number_terminals-requires-clause-few c = subst (λ (l : List ℕ). length l ≤ 4) (sym c.terminal_nets.ensures) (few_nets c.args.gate.now.state)

pub number_terminals-requires-clause-nets : goal.number_terminals-requires-clause-nets
number_terminals-requires-clause-nets c = λ i lt.
    let nets = c.terminal_nets.result.now in
    let x = get_or nets i 0 in
    c.requires.terminals x (ap (λ (l : List ℕ). list_any (λ k. x == k) l) (sym c.terminal_nets.ensures) ∙ list_any_at (λ k. x == k) nets i 0 lt (eq-eqb x x refl))

pub returns-in_ok-push-clause-devices : goal.returns-in_ok-push-clause-devices
returns-in_ok-push-clause-devices c =
    let g = c.in-Good in
    let r = rules_seen c.args.rules.now in
    let e = plain_gate c.args.gate.now in
    let old = c.args.numbering.now.nets in
    let new = c.number_terminals.new.numbering.nets in
    let on = c.in_ok-on.on in
    let row = gate_row g.kind g.twice_w g.twice_l g.nets in
    let gate : GoodGate = record { at = e.at; row = row } in
    let state = ap (λ (s : GateState). plain_state s) g.is in
    let nets = c.terminal_nets.ensures ∙ ap verdict_nets state in
    let numbers = subst (λ (l : List ℕ). AreNumbersOf old new l (take (length l) on)) nets c.in_ok-on.ensures.numbers in
    let rule = item_at (device_rules r) e.at.rule c.requires.rule in
    let is = device_on (device_rules r) c.args.unit_pm old new g.kind g.twice_w g.twice_l g.nets on c.in_ok-on.ensures.four numbers rule.0 gate (plain_device c.in_ok-row.row) rule.1 refl (c.in_ok-row.ensures rule.0 rule.1) in
    good_added (device_rules r) c.args.unit_pm e row old new (map plain_device c.args.rows.now.items) (map plain_device c.push.new.self.items) (plain_device c.in_ok-row.row)
    state numbers.kept
    (ap (λ (l : List DeviceRow). map plain_device l) c.in_ok-push.ensures.items ∙ map_push plain_device c.args.rows.now.items c.in_ok-row.row)
    is.0 is.1
