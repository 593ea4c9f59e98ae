use Rattle.std.proofs.Common.{◌+◌, List, sym, subst}
use Rattle.cell_graph.specs.declared.indexes.CellIndex.{CellIndex}
use Rattle.cell_graph.specs.Indexes.{AreIndexedTo}
use Rattle.cell_graph.proofs.Indexing.{index_more}
use Rattle.cell_graph.proofs.indexes.indexes_of.Goals as goal

pub loop-i-preserved : goal.loop-i-preserved
loop-i-preserved c =
    let x = c.in_ok-index_of.field-0 in
    let next = index_more c.args.cells.now c.loop-i.i c.loop-i.indexes.items x (c.in_ok-index_of.ensures {u = tt}) c.loop-i.invariant in
    subst (λ (xs : List CellIndex). AreIndexedTo c.args.cells.now (c.loop-i.i + 1) xs) (sym (c.in_ok-push.ensures {u = tt}).items) next
