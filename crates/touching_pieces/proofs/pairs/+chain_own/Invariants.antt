use Rattle.touching_pieces.proofs.pairs.+chain_own.Given as goal

abbrev pub decreases-chain_own : goal.decreases-chain_own
decreases-chain_own l = l.depth
