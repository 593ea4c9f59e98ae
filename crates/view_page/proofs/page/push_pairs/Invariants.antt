use Rattle.std.proofs.Common.{◌≡◌, ℕ, List, ◌+◌, ◌++◌, length, map}
use Rattle.spice_text.specs.Written.{Adds, AreTexts}
use Rattle.view_page.specs.Made.{book_of}
use Rattle.view_page.specs.Page.{IsNumbered}
use Rattle.view_page.proofs.page.push_pairs.Given as goal

abbrev pub invariant-pairs : goal.invariant-pairs
invariant-pairs l = ((b : List ℕ) → AreTexts (IsNumbered (book_of l.b)) l.k (map (λ list. list.items) l.rest) b
    → Adds (AreTexts (IsNumbered (book_of l.b)) 0 (map (λ list. list.items) l.rows)) l.initial.out.items (l.out.items ++ b))
    × (l.k + length l.rest ≡ length l.rows)

abbrev pub decreases-pairs : goal.decreases-pairs
decreases-pairs l = length l.rest
