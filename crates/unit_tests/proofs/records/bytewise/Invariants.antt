use Rattle.std.proofs.Common.{◌≡◌, length}
use Rattle.unit_tests.proofs.records.bytewise.Given as goal

abbrev pub invariant-loop-byte : goal.invariant-loop-byte
invariant-loop-byte l = length l.reader.fed ≡ l.byte-index
