use Rattle.rule_layers.specs.Reads.{IsByDevice, Marks}
use Rattle.rule_layers.proofs.reads.mark_devices.Given as goal

abbrev pub invariant-loop-device : goal.invariant-loop-device
invariant-loop-device l = Marks (IsByDevice l.devices l.device-index) l.fn.marks.items l.marks.items
