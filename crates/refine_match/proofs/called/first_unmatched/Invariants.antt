use Rattle.std.proofs.Common.{◌≡◌, ℕ, ◌<◌, List, slice_get, Some}
use Rattle.plain_netlist.specs.Netlist.{CallRow}
use Rattle.net_model.specs.Rows.{plain_circuit}
use Rattle.match_types.specs.Children.{children_of}
use Rattle.refine_match.proofs.called.first_unmatched.Given as goal

abbrev pub invariant-loop-k : goal.invariant-loop-k
invariant-loop-k l = (j : ℕ) (c : CallRow) → j < l.k → slice_get (plain_circuit l.left).calls j ≡ Some c → (pins : List ℕ) × (children_of l.children c.circuit ≡ Some pins)
