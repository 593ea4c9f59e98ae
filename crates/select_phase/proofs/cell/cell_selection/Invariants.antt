use Rattle.gate_phase.specs.Site.{layout_at}
use Rattle.select_phase.specs.Selections.{meant_at}
use Rattle.select_phase.proofs.SortedParts.{AreSortedTo}
use Rattle.select_phase.proofs.cell.cell_selection.Given as goal

abbrev pub invariant-loop-part : goal.invariant-loop-part
invariant-loop-part l = AreSortedTo (layout_at l.site) (meant_at l.site l.selection) l.site.cell l.part-items l.part-index l.sorted
