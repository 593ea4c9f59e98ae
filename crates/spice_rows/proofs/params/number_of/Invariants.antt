use Rattle.std.proofs.Common.{length}
use Rattle.spice_rows.proofs.NumberLemmas.{AreRead}
use Rattle.spice_rows.proofs.params.number_of.Given as goal

abbrev pub invariant-digits : goal.invariant-digits
invariant-digits l = AreRead l.text l.n l.rest

abbrev pub decreases-digits : goal.decreases-digits
decreases-digits l = length l.rest
