use Rattle.std.proofs.Common.{◌∙◌, map, sym, ap, arith}
use Rattle.deep_tables.specs.Gates.{plain_state}
use Rattle.deep_tables.specs.declared.gates.Gate.{Gate}
use Rattle.net_model.specs.Rows.{plain_device}
use Rattle.rule_text.specs.Seen.{rules_seen}
use Rattle.net_marks.specs.Marks.{is_terminal}
use Rattle.circuit_phase.proofs.Adding.{end_devices, end_kept, end_numbered, one_gate}
use Rattle.net_marks.proofs.Terminals.{terminal_of}
use Rattle.circuit_phase.proofs.rows.device_rows.Goals as goal

pub push_device-requires-clause-terminals : goal.push_device-requires-clause-terminals
push_device-requires-clause-terminals c = λ x h.
    let long = c.loop-gate.invariant.same in
    let here = ap (λ (g : Gate). is_terminal x (plain_state g.state)) (sym c.gate-item.is) ∙ h in
    let lt = c.requires.terminals x (terminal_of x c.args.gates.now c.loop-gate.gate-index c.gate-item.result c.loop-gate-test.true here) in
    omega (arith, lt, long)

pub loop-gate-preserved : goal.loop-gate-preserved
loop-gate-preserved c =
    let old = c.args.numbering.now in
    let mid = c.loop-gate.numbering in
    let new = c.push_device.new.numbering in
    one_gate (rules_seen c.args.rules.now) c.args.unit_pm old.count old.nets c.args.gates.now mid.count new.count mid.nets new.nets c.loop-gate.gate-index c.gate-item.result (map plain_device c.loop-gate.rows.items) (map plain_device c.push_device.new.rows.items)
    c.loop-gate-test.true c.gate-item.is c.in_ok-push_device.ensures.count c.in_ok-push_device.ensures.devices c.loop-gate.invariant

pub returns-clause-kept : goal.returns-clause-kept
returns-clause-kept c =
    let old = c.args.numbering.now in
    end_kept (rules_seen c.args.rules.now) c.args.unit_pm old.count old.nets c.args.gates.now c.loop-gate.numbering.count c.loop-gate.numbering.nets c.loop-gate.gate-index (map plain_device c.loop-gate.rows.items) c.loop-gate.invariant

pub returns-clause-devices : goal.returns-clause-devices
returns-clause-devices c =
    let old = c.args.numbering.now in
    let end = c.loop-gate-test.false in
    end_devices (rules_seen c.args.rules.now) c.args.unit_pm old.count old.nets c.args.gates.now c.loop-gate.numbering.count c.loop-gate.numbering.nets c.loop-gate.gate-index (map plain_device c.loop-gate.rows.items) (omega (arith, end)) c.loop-gate.invariant

pub returns-clause-numbered : goal.returns-clause-numbered
returns-clause-numbered c =
    let old = c.args.numbering.now in
    end_numbered (rules_seen c.args.rules.now) c.args.unit_pm old.count old.nets c.args.gates.now c.loop-gate.numbering.count c.loop-gate.numbering.nets c.loop-gate.gate-index (map plain_device c.loop-gate.rows.items) c.loop-gate.invariant
