use Rattle.std.proofs.Common.{◌≡◌, ◌+◌, ◌++◌, map, length}
use Rattle.net_model.specs.Rows.{plain_call}
use Rattle.part_origins.specs.Parts.{kept_from}
use Rattle.part_origins.proofs.parts.add_calls.Given as goal

abbrev pub invariant-calls : goal.invariant-calls
invariant-calls l =
    (l.parts.items ++ kept_from l.numbers l.spot l.j (map plain_call l.rest) ≡ l.initial.parts.items ++ kept_from l.numbers l.spot 0 (map plain_call l.calls))
    × (l.j + length l.rest ≡ length l.calls)

abbrev pub decreases-calls : goal.decreases-calls
decreases-calls l = length l.rest
