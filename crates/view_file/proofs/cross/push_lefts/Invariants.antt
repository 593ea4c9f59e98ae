use Rattle.std.proofs.Common.{◌≡◌, ◌++◌, ◌+◌, length, map}
use Rattle.net_model.specs.Rows.{plain_circuit}
use Rattle.view_file.specs.Cross.{left_texts, logs_of}
use Rattle.view_file.proofs.cross.push_lefts.Given as goal

abbrev pub invariant-circuits : goal.invariant-circuits
invariant-circuits l =
    (l.out.items ++ left_texts l.names (logs_of l.logs) l.k (map plain_circuit l.rest) ≡ l.initial.out.items ++ left_texts l.names (logs_of l.logs) 0 (map plain_circuit l.lefts))
    × (l.k + length l.rest ≡ length l.lefts)

abbrev pub decreases-circuits : goal.decreases-circuits
decreases-circuits l = length l.rest
