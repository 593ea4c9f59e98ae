use Rattle.rect_sets.proofs.halves.+blocks_by.Given as goal

abbrev pub decreases-blocks_by : goal.decreases-blocks_by
decreases-blocks_by l = l.depth
