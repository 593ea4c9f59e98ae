use Rattle.touching_pieces.proofs.pairs.+link_halves.Given as goal

abbrev pub decreases-link_halves : goal.decreases-link_halves
decreases-link_halves l = l.depth
