use Rattle.std.proofs.Common.{◌≡◌, length}
use Rattle.lvs_words.specs.Fitting.{has_needed}
use Rattle.lvs_words.specs.Seen.{seen_all}
use Rattle.lvs_words.proofs.fitting.has_needed.Given as goal

abbrev pub invariant-flags : goal.invariant-flags
invariant-flags l = has_needed l.rest (seen_all l.items) ≡ has_needed l.needed (seen_all l.items)

abbrev pub decreases-flags : goal.decreases-flags
decreases-flags l = length l.rest
