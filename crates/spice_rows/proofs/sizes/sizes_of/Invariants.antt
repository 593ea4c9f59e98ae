use Rattle.std.proofs.Common.{◌≡◌, length}
use Rattle.spice_cards.specs.Seen.{params_seen}
use Rattle.spice_rows.specs.Sizes.{read_limit, changed, sizes_of}
use Rattle.spice_rows.proofs.sizes.sizes_of.Given as goal

abbrev pub invariant-params : goal.invariant-params
invariant-params l = changed read_limit l.kind l.a.0 l.b.0 (params_seen l.rest) ≡ sizes_of read_limit l.kind (params_seen l.params)

abbrev pub decreases-params : goal.decreases-params
decreases-params l = length l.rest
