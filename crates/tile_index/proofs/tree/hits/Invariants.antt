use Rattle.tile_index.proofs.Walks.{HasWalked}
use Rattle.tile_index.proofs.tree.hits.Given as goal

abbrev pub invariant-loop-i : goal.invariant-loop-i
invariant-loop-i l = HasWalked l.w l.entries l.nodes l.i l.found.items

abbrev pub decreases-loop-i : goal.decreases-loop-i
decreases-loop-i l = l.i
