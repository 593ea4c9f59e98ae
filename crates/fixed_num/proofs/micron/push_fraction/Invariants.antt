use Rattle.std.proofs.Common.{length, ◌-◌, ◌+◌}
use Rattle.fixed_num.specs.Microns.{AddsDigits}
use Rattle.fixed_num.proofs.micron.push_fraction.Given as goal

abbrev pub invariant-loop-rest : goal.invariant-loop-rest
invariant-loop-rest l = AddsDigits l.fn.tens l.fn.value l.rest l.fn.text.items l.text.items

abbrev pub decreases-loop-rest : goal.decreases-loop-rest
decreases-loop-rest l = length l.fn.text.items + l.fn.tens + 1 - length l.text.items
