use Rattle.std.specs.Prelude.{◌≡◌}
use Rattle.tile_index.proofs.Scanning.{found_to}
use Rattle.tile_index.proofs.list.positions_in.Given as goal

abbrev pub invariant-loop-i : goal.invariant-loop-i
invariant-loop-i l = l.found.items ≡ found_to l.rects l.w l.i
