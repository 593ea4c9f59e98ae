use Rattle.std.proofs.Common.{ℕ, take}
use Rattle.net_walk.proofs.partners.joined_to.Given as goal
use Rattle.net_walk.specs.Held.{IsOneOf}
use Rattle.touching_pieces.specs.Pairs.{AreJoined}

abbrev pub invariant-loop-line : goal.invariant-loop-line
invariant-loop-line l = (e : ℕ) → AreJoined (take l.line-index l.joins) l.conductor e → IsOneOf l.out.items e
