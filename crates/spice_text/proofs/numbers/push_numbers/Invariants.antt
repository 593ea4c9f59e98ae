use Rattle.std.proofs.Common.{◌≡◌, ◌++◌, map, length}
use Rattle.text_table.specs.Texts.{place_of}
use Rattle.spice_text.proofs.numbers.push_numbers.Given as goal

abbrev pub invariant-names : goal.invariant-names
invariant-names l = l.out.items ++ map (place_of l.nets) l.rest ≡ l.initial.out.items ++ map (place_of l.nets) l.names

abbrev pub decreases-names : goal.decreases-names
decreases-names l = length l.rest
