use Rattle.std.proofs.Common.{◌≡◌, ◌++◌, ◌+◌, length}
use Rattle.script_lexis.specs.Tokens.{placed_from, placed_of}
use Rattle.script_lexis.specs.Seen.{seen_all}
use Rattle.script_lexis.proofs.tokens.read_script.Given as goal

abbrev pub invariant-loop-rest : goal.invariant-loop-rest
invariant-loop-rest l = (seen_all l.out.items ++ placed_from l.at l.spaced l.rest ≡ placed_of l.bytes) × (l.at + length l.rest ≡ length l.bytes)

abbrev pub decreases-loop-rest : goal.decreases-loop-rest
decreases-loop-rest l = length l.rest
