use Rattle.std.proofs.Common.{◌≡◌, ◌++◌, drop, map}
use Rattle.select_flow.specs.Sets.{chosen_of, chosen_sets}
use Rattle.select_flow.proofs.sets.chosen_sets.Given as goal

abbrev pub invariant-loop-value : goal.invariant-loop-value
invariant-loop-value l = l.sets.items ++ map chosen_of (drop l.value-index l.found) ≡ chosen_sets l.found
