use Rattle.std.proofs.Common.{◌≡◌, ◌++◌, [], length, map}
use Rattle.view_page.specs.Notes.{pieces}
use Rattle.view_page.proofs.notes.pieces.Given as goal

abbrev pub invariant-bytes : goal.invariant-bytes
invariant-bytes l = map (λ t. t.items) l.out.items ++ pieces l.front.items l.rest ≡ pieces [] l.name

abbrev pub decreases-bytes : goal.decreases-bytes
decreases-bytes l = length l.rest
