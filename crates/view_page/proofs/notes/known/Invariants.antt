use Rattle.std.proofs.Common.{◌≡◌, ◌++◌, length, map}
use Rattle.view_page.specs.Notes.{known}
use Rattle.view_page.proofs.notes.known.Given as goal

abbrev pub invariant-texts : goal.invariant-texts
invariant-texts l = map (λ t. t.items) l.out.items ++ known l.names (map (λ t. t.items) l.rest)
    ≡ known l.names (map (λ t. t.items) l.texts)

abbrev pub decreases-texts : goal.decreases-texts
decreases-texts l = length l.rest
