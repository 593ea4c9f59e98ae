use Rattle.std.proofs.Common.{◌≡◌, ℕ, ◌<◌, slice_get, slice_index, Some}
use Rattle.plain_netlist.specs.Netlist.{CallRow}
use Rattle.net_model.specs.Rows.{plain_circuit}
use Rattle.match_types.specs.Children.{children_of}
use Rattle.match_laws.specs.Circuits.{IsCallImage}
use Rattle.pairing_check.proofs.calls.calls_kept.Given as goal

abbrev pub invariant-loop-k : goal.invariant-loop-k
invariant-loop-k l = (k : ℕ) (c e : CallRow) → k < l.k → slice_get (plain_circuit l.left).calls k ≡ Some c
    → slice_get (plain_circuit l.right).calls (slice_index l.calls k) ≡ Some e → IsCallImage (children_of l.children) l.nets c e
