use Rattle.std.proofs.Common.{◌+◌, ◌*◌, ◌-◌, ◌^◌, length}
use Rattle.refine_match.specs.Searching.{IsKept}
use Rattle.refine_match.proofs.matching.decide.Given as goal

abbrev pub invariant-loop-candidate : goal.invariant-loop-candidate
invariant-loop-candidate l = IsKept l.sides.graph.now l.sides.left.now l.sides.right.now l.initial.search.limit l.search

abbrev pub decreases-loop-candidate : goal.decreases-loop-candidate
decreases-loop-candidate l = 2 * (2 ^ 64 - length l.search.rows.items) + length l.search.outer.items
