-- Nets that were read.
use Rattle.std.specs.Prelude.{◌≡◌, ℕ, true, List, Option, Some, None, IsSomeAnd, get_or, map}
use Rattle.std.specs.Prelude.{slice_index}
use Rattle.std.specs.Borrow.{Bor}
use Rattle.cell_graph.specs.Linked.{Linked, plain}
use Rattle.job_graph.specs.Graph.{has}
use Rattle.rule_text.specs.Rules.{Rules}
use Rattle.deep_tables.specs.Nets.{AreCellNets}
use Rattle.deep_tables.specs.declared.nets.CellNets.{CellNets}

abbrev pub now_of : Option (Bor CellNets) → Option CellNets
now_of None = None
now_of (Some v) = Some v.now

-- what is known of each cell
abbrev pub nets_of : List (Option (Bor CellNets)) → List (Option CellNets)
nets_of all = map now_of all

-- the cell of each job has right nets
abbrev pub AreRead : Linked → Rules → List ℕ → List ℕ → List (Option CellNets) → Type 0
AreRead d r inputs order nets = (i : ℕ) → has i inputs ≡ true
    → IsSomeAnd (get_or nets (slice_index order i) None)
    (AreCellNets (plain d) r (slice_index order i))
