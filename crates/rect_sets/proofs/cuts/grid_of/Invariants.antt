use Rattle.rect_sets.proofs.cuts.grid_of.Given as goal

abbrev pub decreases-loop-stripes : goal.decreases-loop-stripes
decreases-loop-stripes l = l.stripes
