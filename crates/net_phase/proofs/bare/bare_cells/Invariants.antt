use Rattle.net_phase.proofs.Marks.{AreBareMarks}
use Rattle.net_phase.proofs.bare.bare_cells.Given as goal
use Rattle.net_phase.specs.Own.{rect_lists}

abbrev pub invariant-loop-cell : goal.invariant-loop-cell
invariant-loop-cell l = AreBareMarks l.design (rect_lists l.own) l.conductor l.marks.items
