use Rattle.std.proofs.Common.{◌≡◌, ◌++◌, map, length}
use Rattle.std.specs.Prelude.{flat_map}
use Rattle.net_model.specs.Rows.{plain_call}
use Rattle.part_origins.specs.Nets.{call_nets_at}
use Rattle.part_origins.proofs.nets.add_calls.Given as goal

abbrev pub invariant-calls : goal.invariant-calls
invariant-calls l =
    l.seen.items ++ flat_map (call_nets_at l.numbers (map (λ p. p.items) l.held) l.nets) (map plain_call l.rest) ≡ l.initial.seen.items ++ flat_map (call_nets_at l.numbers (map (λ p. p.items) l.held) l.nets) (map plain_call l.calls)

abbrev pub decreases-calls : goal.decreases-calls
decreases-calls l = length l.rest
