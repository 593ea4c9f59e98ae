use Rattle.std.proofs.Common.{◌≡◌, ◌+◌, length}
use Rattle.lvs_tests.proofs.reading.fed.Given as goal

abbrev pub invariant-loop-rest : goal.invariant-loop-rest
invariant-loop-rest l = length l.reader.fed + length l.rest ≡ length l.bytes

abbrev pub decreases-loop-rest : goal.decreases-loop-rest
decreases-loop-rest l = length l.rest
