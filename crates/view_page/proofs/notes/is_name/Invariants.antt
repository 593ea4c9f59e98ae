use Rattle.std.proofs.Common.{◌≡◌, length}
use Rattle.view_page.specs.Notes.{is_name}
use Rattle.view_page.proofs.notes.is_name.Given as goal

abbrev pub invariant-names : goal.invariant-names
invariant-names l = is_name l.names l.text ≡ is_name l.rest l.text

abbrev pub decreases-names : goal.decreases-names
decreases-names l = length l.rest
