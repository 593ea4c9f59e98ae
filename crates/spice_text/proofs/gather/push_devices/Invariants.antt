use Rattle.std.proofs.Common.{◌≡◌, ◌++◌, replicate}
use Rattle.spice_text.proofs.gather.push_devices.Given as goal

abbrev pub invariant-copies : goal.invariant-copies
invariant-copies l = l.out.items ≡ l.initial.out.items ++ replicate l._copy l.fn.device
