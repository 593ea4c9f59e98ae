use Rattle.std.proofs.Common.{ℕ, ◌<◌, ◌↔◌, slice_index}
use Rattle.plain_netlist.specs.Lists.{IsListed}
use Rattle.pairing_check.proofs.pins.pins_kept.Given as goal

abbrev pub invariant-loop-n : goal.invariant-loop-n
invariant-loop-n l = (j : ℕ) → j < l.n → IsListed j l.left.pins.items ↔ IsListed (slice_index l.nets j) l.right.pins.items
