use Rattle.std.proofs.Common.{get_or}
use Rattle.std.proofs.lemmas.Option.{slice_get-get_or}
use Rattle.cell_graph.proofs.Looking.{name_ok}
use Rattle.cell_graph.proofs.references.name_at.Goals as goal

pub returns : goal.returns
returns c =
    let cells = c.args.cells.now in
    let part = c.index-cells-cell.result in
    name_ok cells c.args.cell (get_or cells c.args.cell part) c.try_clone.result (slice_get-get_or cells c.args.cell part c.requires) c.try_clone.ensures
