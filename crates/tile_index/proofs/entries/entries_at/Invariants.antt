use Rattle.tile_index.proofs.Positions.{ArePlacedTo}
use Rattle.tile_index.proofs.entries.entries_at.Given as goal

abbrev pub invariant-loop-stop : goal.invariant-loop-stop
invariant-loop-stop l = ArePlacedTo l.rects l.stops l.stop-index l.entries.items
