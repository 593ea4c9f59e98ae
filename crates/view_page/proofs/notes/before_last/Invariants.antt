use Rattle.std.proofs.Common.{◌≡◌, length}
use Rattle.view_page.specs.Notes.{before_last}
use Rattle.view_page.proofs.notes.before_last.Given as goal

abbrev pub invariant-bytes : goal.invariant-bytes
invariant-bytes l = before_last l.name ≡ before_last l.rest

abbrev pub decreases-bytes : goal.decreases-bytes
decreases-bytes l = length l.rest
