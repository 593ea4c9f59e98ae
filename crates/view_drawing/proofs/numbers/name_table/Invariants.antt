use Rattle.std.proofs.Common.{◌≡◌, [], length}
use Rattle.spice_text.specs.Needs.{first_seen}
use Rattle.view_drawing.proofs.numbers.name_table.Given as goal

abbrev pub invariant-names : goal.invariant-names
invariant-names l = first_seen l.table l.rest ≡ first_seen [] l.names

abbrev pub decreases-names : goal.decreases-names
decreases-names l = length l.rest
