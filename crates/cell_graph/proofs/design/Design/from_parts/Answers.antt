use Rattle.std.proofs.Common.{List, sym, subst}
use Rattle.cell_graph.specs.declared.cells.CellPart.{CellPart}
use Rattle.cell_graph.specs.Indexes.{AreSoundCells}
use Rattle.cell_graph.proofs.design.Design.from_parts.Goals as goal

pub indexes_of-requires : goal.indexes_of-requires
indexes_of-requires c = subst (λ (cells : List CellPart). AreSoundCells cells) (sym c.deref.ensures.value) c.requires.each
