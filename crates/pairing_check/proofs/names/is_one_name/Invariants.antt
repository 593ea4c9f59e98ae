use Rattle.std.proofs.Common.{◌≡◌, take}
use Rattle.net_names.specs.Folding.{folded_bytes}
use Rattle.pairing_check.proofs.names.is_one_name.Given as goal

abbrev pub invariant-loop-k : goal.invariant-loop-k
invariant-loop-k l = folded_bytes (take l.k l.one) ≡ folded_bytes (take l.k l.other)
