use Rattle.std.proofs.Common.{◌≡◌, length}
use Rattle.lvs_words.specs.Fitting.{has_known}
use Rattle.lvs_words.specs.Seen.{seen_all}
use Rattle.lvs_words.proofs.fitting.has_known.Given as goal

abbrev pub invariant-items : goal.invariant-items
invariant-items l = has_known l.needed l.free (seen_all l.rest) ≡ has_known l.needed l.free (seen_all l.items)

abbrev pub decreases-items : goal.decreases-items
decreases-items l = length l.rest
