use Rattle.std.proofs.Common.{◌≡◌, ◌++◌, length, map}
use Rattle.text_table.specs.Texts.{place_of}
use Rattle.view_drawing.proofs.numbers.places_of.Given as goal

abbrev pub invariant-names : goal.invariant-names
invariant-names l = l.places.items ++ map (place_of l.table) l.rest ≡ map (place_of l.table) l.names

abbrev pub decreases-names : goal.decreases-names
decreases-names l = length l.rest
