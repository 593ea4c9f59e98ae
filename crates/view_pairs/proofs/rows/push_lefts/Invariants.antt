use Rattle.std.proofs.Common.{◌≡◌, ◌++◌, ◌+◌, length}
use Rattle.view_pairs.specs.Rows.{left_rows, mark_at}
use Rattle.view_pairs.specs.Shown.{asked_of}
use Rattle.view_pairs.proofs.rows.push_lefts.Given as goal

abbrev pub invariant-nodes : goal.invariant-nodes
invariant-nodes l = (l.out.items ++ left_rows (mark_at (asked_of l.q) l.kind) l.kind l.k l.rest
    ≡ l.initial.out.items ++ left_rows (mark_at (asked_of l.q) l.kind) l.kind 0 l.entries)
    × (l.k + length l.rest ≡ length l.entries)

abbrev pub decreases-nodes : goal.decreases-nodes
decreases-nodes l = length l.rest
