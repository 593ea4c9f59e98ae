use Rattle.std.proofs.Common.{ℕ, List, ◌++◌, length}
use Rattle.spice_text.specs.Written.{AreOneByOne}
use Rattle.view_page.specs.Page.{IsRowText}
use Rattle.view_page.specs.Told.{told_by}
use Rattle.view_page.proofs.page.row_texts.Given as goal

abbrev pub invariant-rows : goal.invariant-rows
invariant-rows l = (b : List ℕ) → AreOneByOne (IsRowText (told_by l.q)) l.rest b → AreOneByOne (IsRowText (told_by l.q)) l.rows (l.out.items ++ b)

abbrev pub decreases-rows : goal.decreases-rows
decreases-rows l = length l.rest
