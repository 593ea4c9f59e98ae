use Rattle.std.proofs.Common.{◌≡◌, not, length}
use Rattle.std.specs.List.{list_any}
use Rattle.spice_cards.specs.Seen.{params_seen}
use Rattle.spice_rows.specs.Params.{is_one}
use Rattle.spice_rows.proofs.params.has_other.Given as goal

abbrev pub invariant-params : goal.invariant-params
invariant-params l = list_any (λ p. not (is_one p)) (params_seen l.rest) ≡ list_any (λ p. not (is_one p)) (params_seen l.params)

abbrev pub decreases-params : goal.decreases-params
decreases-params l = length l.rest
