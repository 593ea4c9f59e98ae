use Rattle.std.proofs.Common.{◌≡◌, ◌++◌, length, map}
use Rattle.view_page.specs.Notes.{names_text}
use Rattle.view_page.proofs.notes.push_names.Given as goal

abbrev pub invariant-texts : goal.invariant-texts
invariant-texts l = l.out.items ++ names_text (map (λ t. t.items) l.rest)
    ≡ l.initial.out.items ++ names_text (map (λ t. t.items) l.texts)

abbrev pub decreases-texts : goal.decreases-texts
decreases-texts l = length l.rest
