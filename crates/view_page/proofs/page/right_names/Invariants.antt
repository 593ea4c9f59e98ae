use Rattle.std.proofs.Common.{◌≡◌, ◌++◌, length, map}
use Rattle.net_model.specs.Rows.{plain_circuit}
use Rattle.view_page.specs.Page.{right_names}
use Rattle.view_page.proofs.page.right_names.Given as goal

abbrev pub invariant-circuits : goal.invariant-circuits
invariant-circuits l = l.names.items ++ right_names (map plain_circuit l.rest) ≡ right_names (map plain_circuit l.circuits)

abbrev pub decreases-circuits : goal.decreases-circuits
decreases-circuits l = length l.rest
