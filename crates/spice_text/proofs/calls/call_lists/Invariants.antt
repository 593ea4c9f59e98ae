use Rattle.std.proofs.Common.{◌≡◌, ◌++◌, map, length}
use Rattle.call_order.specs.Order.{lists}
use Rattle.spice_text.specs.Circuits.{names_of, called_in, call_lists}
use Rattle.spice_text.specs.Seen.{circuit_seen}
use Rattle.spice_text.proofs.calls.call_lists.Given as goal

abbrev pub invariant-circuits : goal.invariant-circuits
invariant-circuits l = lists l.rows.items ++ map (λ c. map (called_in (names_of (map circuit_seen l.circuits))) c.calls) (map circuit_seen l.rest) ≡ call_lists (map circuit_seen l.circuits)

abbrev pub decreases-circuits : goal.decreases-circuits
decreases-circuits l = length l.rest
