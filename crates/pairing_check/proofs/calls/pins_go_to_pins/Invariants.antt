use Rattle.std.proofs.Common.{◌≡◌, ℕ, ◌<◌, slice_index}
use Rattle.pairing_check.proofs.calls.pins_go_to_pins.Given as goal

abbrev pub invariant-loop-i : goal.invariant-loop-i
invariant-loop-i l = (j : ℕ) → j < l.i → slice_index l.nets (slice_index l.left j) ≡ slice_index l.right (slice_index l.pins j)
