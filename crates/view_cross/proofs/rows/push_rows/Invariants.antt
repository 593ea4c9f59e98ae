use Rattle.std.proofs.Common.{◌≡◌, ◌++◌, length}
use Rattle.view_cross.specs.Rows.{row_texts}
use Rattle.view_cross.proofs.rows.push_rows.Given as goal

abbrev pub invariant-rows : goal.invariant-rows
invariant-rows l = l.out.items ++ row_texts l.rest ≡ l.initial.out.items ++ row_texts l.rows

abbrev pub decreases-rows : goal.decreases-rows
decreases-rows l = length l.rest
