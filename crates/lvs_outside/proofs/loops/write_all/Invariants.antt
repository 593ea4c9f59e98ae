use Rattle.std.proofs.Common.{length}
use Rattle.lvs_outside.specs.Summary.{counted_sink}
use Rattle.lvs_outside.proofs.WrittenFiles.{SentSoFar}
use Rattle.lvs_outside.proofs.loops.write_all.Given as goal

abbrev pub invariant-loop-rest : goal.invariant-loop-rest
invariant-loop-rest g l = SentSoFar (counted_sink (g.S.Sink.state l.fn.out)) (counted_sink (g.S.Sink.state l.out)) l.fn.text l.rest

abbrev pub decreases-loop-rest : goal.decreases-loop-rest
decreases-loop-rest g l = length l.rest
