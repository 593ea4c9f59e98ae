use Rattle.std.proofs.Common.{◌≡◌, ◌+◌, ◌≤◌, drop, length}
use Rattle.view_drawing.specs.Calls.{called_motions}
use Rattle.view_drawing.proofs.calls.count_calls.Given as goal

abbrev pub invariant-elements : goal.invariant-elements
invariant-elements l =
    (l.count + length (called_motions l.circuits (drop l.k l.elements)) ≡ length (called_motions l.circuits l.elements))
    × (l.count ≤ l.k)
