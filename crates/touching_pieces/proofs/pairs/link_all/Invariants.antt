use Rattle.std.proofs.Common.{take}
use Rattle.touching_pieces.specs.Pairs.{AddsTouching}
use Rattle.touching_pieces.proofs.pairs.link_all.Given as goal

abbrev pub invariant-loop-one : goal.invariant-loop-one
invariant-loop-one l = AddsTouching (take l.one-index l.ones) l.others l.fn.out.items l.out.items
