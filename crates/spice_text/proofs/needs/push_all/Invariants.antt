use Rattle.std.proofs.Common.{◌≡◌, length}
use Rattle.spice_text.specs.Table.{with_numbers}
use Rattle.spice_text.proofs.needs.push_all.Given as goal

abbrev pub invariant-names : goal.invariant-names
invariant-names l = with_numbers l.globals l.out.items l.rest ≡ with_numbers l.globals l.initial.out.items l.names

abbrev pub decreases-names : goal.decreases-names
decreases-names l = length l.rest
