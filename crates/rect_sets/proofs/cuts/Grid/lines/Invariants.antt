use Rattle.rect_sets.specs.Stripes.{AreRising}
use Rattle.rect_sets.proofs.cuts.Grid.lines.Given as goal

abbrev pub invariant-loop : goal.invariant-loop
invariant-loop l = AreRising l.at.items
