use Rattle.std.proofs.Common.{◌≡◌, ◌++◌, List, map}
use Rattle.gds_elements.specs.Meaning.{Cell}
use Rattle.gds_elements.specs.Reading.{cell_seen}
use Rattle.gds_layout.specs.Drafts.{AreDrawn}
use Rattle.gds_layout.proofs.drafts.Drawn.add_all.Given as goal

abbrev pub invariant-loop-cell : goal.invariant-loop-cell
invariant-loop-cell l =
    (l.fn.cells.items ≡ l.yielded ++ l.cell-iterator.rest.items)
    × ((before : List Cell) → AreDrawn before l.fn.self → AreDrawn (before ++ map cell_seen l.yielded) l.self)
