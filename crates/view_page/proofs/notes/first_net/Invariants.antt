use Rattle.std.proofs.Common.{◌≡◌, ◌+◌, length}
use Rattle.view_page.specs.Notes.{first_net}
use Rattle.view_page.proofs.notes.first_net.Given as goal

abbrev pub invariant-names : goal.invariant-names
invariant-names l = (first_net 0 l.names l.text ≡ first_net l.k l.rest l.text) × (l.k + length l.rest ≡ length l.names)

abbrev pub decreases-names : goal.decreases-names
decreases-names l = length l.rest
