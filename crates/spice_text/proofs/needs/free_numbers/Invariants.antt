use Rattle.std.proofs.Common.{◌≡◌, ◌++◌, length}
use Rattle.std.specs.List.{filter}
use Rattle.spice_text.specs.Table.{is_free}
use Rattle.spice_text.proofs.needs.free_numbers.Given as goal

abbrev pub invariant-numbers : goal.invariant-numbers
invariant-numbers l = l.row.items ++ filter (is_free l.pins l.globals) l.rest ≡ filter (is_free l.pins l.globals) l.numbers

abbrev pub decreases-numbers : goal.decreases-numbers
decreases-numbers l = length l.rest
