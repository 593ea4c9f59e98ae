use Rattle.std.specs.BinaryHeap.{heap_len}
use Rattle.refine_match.specs.Ties.{AreTiesOf}
use Rattle.refine_match.proofs.ties.Ties.choose.Given as goal

abbrev pub invariant-loop-tie : goal.invariant-loop-tie
invariant-loop-tie l = AreTiesOf l.self l.graph l.classes

abbrev pub decreases-loop-tie : goal.decreases-loop-tie
decreases-loop-tie l = heap_len l.self.queue
