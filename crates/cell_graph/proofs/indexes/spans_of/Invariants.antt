use Rattle.std.specs.Prelude.{◌≡◌, Some, slice_get}
use Rattle.cell_graph.specs.declared.cells.CellPart.{CellPart}
use Rattle.cell_graph.specs.Indexes.{AreSpansTo}
use Rattle.cell_graph.proofs.indexes.spans_of.Given as goal

abbrev pub invariant-loop-i : goal.invariant-loop-i
invariant-loop-i l = (c : CellPart) → slice_get l.cells l.cell ≡ Some c → AreSpansTo l.cells c.places.items l.i l.numbers.items l.spans.items
