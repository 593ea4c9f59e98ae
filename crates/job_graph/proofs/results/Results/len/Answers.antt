use Rattle.std.proofs.Common.{List, length, ap, arith}
use Rattle.std.proofs.lemmas.List.{length-map}
use Rattle.once_cell.specs.Once.{cell_name}
use Rattle.job_graph.specs.declared.notes.CellNote.{CellNote}
use Rattle.job_graph.proofs.Knowing.{same_count}
use Rattle.job_graph.proofs.results.Results.len.Goals as goal

pub returns : goal.returns
returns g c =
    let r = c.self.inside in let same = same_count cell_name r.cells.items r.notes.items c.self.invariant in let n = length-map r.notes.items (λ (n : CellNote g.row.T.Denot). n.value) in
    let seen = ap (λ (xs : List g.row.T.Denot). length xs) c.self.view_is in let o = r.cells.ok.0 in let e = c.len.ensures in omega arith
