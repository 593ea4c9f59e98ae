use Rattle.std.proofs.Common.{◌≡◌, ◌+◌, length}
use Rattle.script_lexis.specs.Lines.{including_from, first_including}
use Rattle.script_lexis.proofs.lines.first_including.Given as goal

abbrev pub invariant-rest : goal.invariant-rest
invariant-rest l = record {
  found : including_from l.at l.fresh l.rest ≡ first_including l.bytes;
  at : l.at + length l.rest ≡ length l.bytes;
}

abbrev pub decreases-rest : goal.decreases-rest
decreases-rest l = length l.rest
