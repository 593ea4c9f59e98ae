-- The name of the top.
use Rattle.std.proofs.Common.{◌≡◌, ◌<◌, ◌∙◌, ℕ, List, length, Some, sym, ap, subst}
use Rattle.base_laws.proofs.Items.{item_at}
use Rattle.cell_graph.specs.Linked.{Linked, cell_at}
use Rattle.cell_graph.specs.declared.cells.CellPart.{CellPart}
use Rattle.match_report.specs.Gates.{name_of as cell_name}

pub top_name : (d : Linked) (t : ℕ) (name : List ℕ) → d.top < length d.cells → t ≡ d.top → ((c : CellPart) → cell_at d t ≡ Some c → name ≡ c.name) → name ≡ cell_name (cell_at d d.top)
top_name d t name lt is f =
    let p = item_at d.cells d.top lt in
    subst (λ (x : ℕ). (c : CellPart) → cell_at d x ≡ Some c → name ≡ c.name) is f p.0 p.1 ∙ sym (ap cell_name p.1)
