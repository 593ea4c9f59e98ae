use Rattle.touching_pieces.proofs.pairs.+chain_halves.Given as goal

abbrev pub decreases-chain_halves : goal.decreases-chain_halves
decreases-chain_halves l = l.depth
