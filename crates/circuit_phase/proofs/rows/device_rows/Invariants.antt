use Rattle.std.proofs.Common.{map}
use Rattle.net_model.specs.Rows.{plain_device}
use Rattle.rule_text.specs.Seen.{rules_seen}
use Rattle.circuit_phase.proofs.Adding.{AreDevicesTo}
use Rattle.circuit_phase.proofs.rows.device_rows.Given as goal

abbrev pub invariant-loop-gate : goal.invariant-loop-gate
invariant-loop-gate l = AreDevicesTo (rules_seen l.rules) l.unit_pm l.fn.numbering.count l.fn.numbering.nets l.gates l.numbering.count l.numbering.nets l.gate-index (map plain_device l.rows.items)
