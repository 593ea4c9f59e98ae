use Rattle.std.proofs.Common.{[], ◌∷◌, take}
use Rattle.touching_pieces.specs.Pairs.{AddsTouching}
use Rattle.touching_pieces.proofs.pairs.link_one.Given as goal

abbrev pub invariant-loop-other : goal.invariant-loop-other
invariant-loop-other l = AddsTouching (l.one ∷ []) (take l.other-index l.others) l.fn.out.items l.out.items
