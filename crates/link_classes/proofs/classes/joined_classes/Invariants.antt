use Rattle.std.proofs.Common.{take}
use Rattle.link_classes.proofs.classes.joined_classes.Given as goal
use Rattle.link_classes.specs.Forest.{AreTreesOf, IsForest}

abbrev pub invariant-loop-link : goal.invariant-loop-link
invariant-loop-link l = IsForest l.forest.parent.items l.forest.rank.items × AreTreesOf l.forest.parent.items l.n (take l.link-index l.links)
