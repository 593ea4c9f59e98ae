use Rattle.std.proofs.Common.{◌≡◌, ◌++◌, drop}
use Rattle.std.specs.List.{All}
use Rattle.view_netlist.specs.Drawing.{IsSmallShift}
use Rattle.view_drawing.specs.Calls.{called_motions}
use Rattle.view_drawing.proofs.calls.call_motions.Given as goal

abbrev pub invariant-elements : goal.invariant-elements
invariant-elements l =
    (l.out.items ++ called_motions l.circuits (drop l.k l.elements) ≡ called_motions l.circuits l.elements)
    × All IsSmallShift l.out.items
