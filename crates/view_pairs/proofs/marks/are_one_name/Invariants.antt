use Rattle.std.proofs.Common.{◌≡◌, length, bytes_eq}
use Rattle.net_names.specs.Folding.{folded_bytes}
use Rattle.view_pairs.proofs.marks.are_one_name.Given as goal

abbrev pub invariant-bytes : goal.invariant-bytes
invariant-bytes l = bytes_eq (folded_bytes l.a) (folded_bytes l.b) ≡ bytes_eq (folded_bytes l.left) (folded_bytes l.right)

abbrev pub decreases-bytes : goal.decreases-bytes
decreases-bytes l = length l.left
