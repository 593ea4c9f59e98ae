use Rattle.std.proofs.Common.{◌≡◌, ◌++◌, ◌+◌, length, map}
use Rattle.net_model.specs.Rows.{plain_call}
use Rattle.view_netlist.specs.Circuits.{call_texts}
use Rattle.view_netlist.proofs.circuits.push_calls.Given as goal

abbrev pub invariant-calls : goal.invariant-calls
invariant-calls l =
    (l.out.items ++ call_texts l.circuits l.motions l.k (map plain_call l.rest) ≡ l.initial.out.items ++ call_texts l.circuits l.motions 0 (map plain_call l.calls))
    × (l.k + length l.rest ≡ length l.calls)

abbrev pub decreases-calls : goal.decreases-calls
decreases-calls l = length l.rest
