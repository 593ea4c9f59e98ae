use Rattle.std.proofs.Common.{map}
use Rattle.deep_tables.specs.Nets.{plain_item}
use Rattle.circuit_phase.specs.Placed.{is_child_marked}
use Rattle.circuit_phase.proofs.Children.{AreMarkedFrom}
use Rattle.circuit_phase.proofs.placed.mark_placed.Given as goal

abbrev pub invariant-loop-i : goal.invariant-loop-i
invariant-loop-i g l = AreMarkedFrom (is_child_marked (g.P.Placed.pins l.placed) (g.P.Placed.drawn l.placed) l.cells) (map plain_item l.nets.items.items) l.nets.net_of.items l.fn.marks l.i l.marks
