use Rattle.std.proofs.Common.{◌≡◌, ◌≤◌, ◌+◌, length}
use Rattle.netlist_join.specs.Paths.{folder_len}
use Rattle.netlist_join.proofs.files.folder_len.Given as goal

abbrev pub invariant-bytes : goal.invariant-bytes
invariant-bytes l = (folder_len l.n l.k l.rest ≡ folder_len 0 0 l.path) × (l.n ≤ l.k) × (l.k + length l.rest ≤ length l.path)

abbrev pub decreases-bytes : goal.decreases-bytes
decreases-bytes l = length l.rest
