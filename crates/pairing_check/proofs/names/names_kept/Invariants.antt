use Rattle.std.proofs.Common.{◌≡◌, ◌<◌, ℕ, true, slice_index}
use Rattle.match_laws.specs.Circuits.{pin_name}
use Rattle.net_model.specs.Rows.{plain_circuit}
use Rattle.pairing_check.proofs.names.names_kept.Given as goal

abbrev pub invariant-loop-n : goal.invariant-loop-n
invariant-loop-n l = (j : ℕ) → j < l.n → pin_name true (plain_circuit l.left) j ≡ pin_name true (plain_circuit l.right) (slice_index l.nets j)
