use Rattle.std.proofs.Common.{◌≡◌, map, take}
use Rattle.net_phase.proofs.indexes.span_indexes.Given as goal
use Rattle.net_phase.specs.Elements.{element_lists}
use Rattle.net_phase.specs.Indexes.{spans_of}

abbrev pub invariant-loop-cell : goal.invariant-loop-cell
invariant-loop-cell l = l.indexes.items ≡ map (spans_of l.reach l.design) (element_lists (take l.cell l.elements))
