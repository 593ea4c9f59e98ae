use Rattle.std.proofs.Common.{◌≡◌, ◌<◌, ◌+◌, ℕ, length, slice_index}
use Rattle.match_types.specs.Plain.{plain_kind}
use Rattle.refine_match.specs.Evidence.{begin_of}
use Rattle.refine_match.specs.Pairings.{IsMateOf}
use Rattle.refine_match.proofs.pairings.mates_of.Given as goal

abbrev pub invariant-loop-node : goal.invariant-loop-node
invariant-loop-node l =
    (begin_of l.graph.left (plain_kind l.fn.kind) + length l.mates.items ≡ l.node)
    × ((k : ℕ) → k < length l.mates.items → IsMateOf l.graph l.classes (plain_kind l.fn.kind) k (slice_index l.mates.items k))
