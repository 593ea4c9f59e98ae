use Rattle.std.proofs.Common.{◌≡◌, length}
use Rattle.lvs_words.specs.Items.{shared}
use Rattle.lvs_words.specs.Seen.{seen_all}
use Rattle.lvs_words.proofs.items.shared.Given as goal

abbrev pub invariant-pairs : goal.invariant-pairs
invariant-pairs l = shared (seen_all l.rest) ≡ shared (seen_all l.items)

abbrev pub decreases-pairs : goal.decreases-pairs
decreases-pairs l = length l.rest
