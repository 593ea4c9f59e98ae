use Rattle.std.proofs.Common.{◌≡◌, length}
use Rattle.spice_cards.specs.Parts.{params_of}
use Rattle.spice_cards.specs.Seen.{tokens_seen, params_seen}
use Rattle.spice_cards.proofs.PartLemmas.{after}
use Rattle.spice_cards.proofs.parts.read_params.Given as goal

abbrev pub invariant-params : goal.invariant-params
invariant-params l = after (params_seen l.params.items) (params_of (tokens_seen l.rest)) ≡ params_of (tokens_seen l.tokens)

abbrev pub decreases-params : goal.decreases-params
decreases-params l = length l.rest
