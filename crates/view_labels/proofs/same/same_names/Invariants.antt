use Rattle.std.proofs.Common.{◌≡◌, ◌↔◌, length}
use Rattle.view_labels.proofs.same.same_names.Given as goal

abbrev pub invariant-names : goal.invariant-names
invariant-names l = (l.rest ≡ l.behind) ↔ (l.some ≡ l.others)

abbrev pub decreases-names : goal.decreases-names
decreases-names l = length l.rest
