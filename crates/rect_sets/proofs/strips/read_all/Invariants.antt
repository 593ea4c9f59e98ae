use Rattle.std.proofs.Common.{take}
use Rattle.rect_sets.specs.Blocks.{HaveRoom}
use Rattle.rect_sets.proofs.strips.read_all.Given as goal

abbrev pub invariant-loop-edge : goal.invariant-loop-edge
invariant-loop-edge l = HaveRoom (take l.edge-index l.edges)
