use Rattle.std.proofs.Common.{◌≡◌, ◌+◌, ◌≤◌, length}
use Rattle.script_lexis.specs.Lines.{position_behind, position_of}
use Rattle.script_lexis.proofs.lines.position_of.Given as goal

abbrev pub invariant-rest : goal.invariant-rest
invariant-rest l = record {
  behind : position_behind l.line l.column l.rest ≡ position_of l.bytes l.at;
  line : l.line + length l.rest ≤ l.at + 1;
  column : l.column + length l.rest ≤ l.at + 1;
}

abbrev pub decreases-rest : goal.decreases-rest
decreases-rest l = length l.rest
