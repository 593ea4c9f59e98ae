use Rattle.std.proofs.Common.{◌≡◌, ◌++◌, map, length}
use Rattle.text_table.specs.Texts.{place_of}
use Rattle.spice_text.specs.Table.{picked}
use Rattle.spice_text.proofs.numbers.push_needed.Given as goal

abbrev pub invariant-numbers : goal.invariant-numbers
invariant-numbers l = l.out.items ++ map (place_of l.nets) (picked l.rest l.globals) ≡ l.initial.out.items ++ map (place_of l.nets) (picked l.row l.globals)

abbrev pub decreases-numbers : goal.decreases-numbers
decreases-numbers l = length l.rest
