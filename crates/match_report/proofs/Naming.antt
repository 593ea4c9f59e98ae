-- The name of a cell.
use Rattle.std.proofs.Common.{◌≡◌, ℕ, ◌<◌, List, Some, length, ◌∙◌, sym, ap}
use Rattle.base_laws.proofs.Items.{item_at}
use Rattle.cell_graph.specs.Linked.{Linked, cell_at}
use Rattle.cell_graph.specs.declared.cells.CellPart.{CellPart}
use Rattle.match_report.specs.Gates.{name_of}

pub named : (d : Linked) (cell : ℕ) (name : List ℕ) → cell < length d.cells
    → ((c : CellPart) → cell_at d cell ≡ Some c → name ≡ c.name) → name ≡ name_of (cell_at d cell)
named d cell name lt is =
    let c = item_at d.cells cell lt in
    is c.0 c.1 ∙ sym (ap name_of c.1)
