use Rattle.std.proofs.Common.{◌≡◌, ◌++◌, ◌+◌, length}
use Rattle.view_cross.specs.Matched.{pin_rows}
use Rattle.view_cross.proofs.matched.push_pins.Given as goal

abbrev pub invariant-pins : goal.invariant-pins
invariant-pins l =
    (l.out.items ++ pin_rows l.nets l.rights l.k l.rest ≡ l.initial.out.items ++ pin_rows l.nets l.rights 0 l.lefts)
    × (l.k + length l.rest ≡ length l.lefts)

abbrev pub decreases-pins : goal.decreases-pins
decreases-pins l = length l.rest
