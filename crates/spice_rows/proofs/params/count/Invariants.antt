use Rattle.std.proofs.Common.{◌≡◌, ◌+◌, ◌≤◌, length}
use Rattle.std.specs.List.{count_by}
use Rattle.spice_cards.specs.Seen.{params_seen}
use Rattle.spice_rows.specs.Params.{is_key}
use Rattle.spice_rows.proofs.params.count.Given as goal

abbrev pub invariant-params : goal.invariant-params
invariant-params l = (l.n + count_by (is_key l.key) (params_seen l.rest) ≡ count_by (is_key l.key) (params_seen l.params)) × (l.n + length l.rest ≤ length l.params)

abbrev pub decreases-params : goal.decreases-params
decreases-params l = length l.rest
