use Rattle.std.proofs.Common.{◌≡◌, take}
use Rattle.flat_layout.specs.Pins.{with_commas}
use Rattle.pin_phase.proofs.bases.joined.Given as goal

abbrev pub invariant-loop-i : goal.invariant-loop-i
invariant-loop-i l = l.text.items ≡ with_commas (take l.i l.tags)
