use Rattle.std.proofs.Common.{take}
use Rattle.net_walk.proofs.partners.may_touch.Given as goal
use Rattle.net_walk.specs.Partners.{TouchNone}

abbrev pub invariant-loop-one : goal.invariant-loop-one
invariant-loop-one l = TouchNone (take l.one-index l.ones) l.span.rect
