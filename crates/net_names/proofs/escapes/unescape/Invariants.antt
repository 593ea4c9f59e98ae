use Rattle.std.proofs.Common.{length}
use Rattle.net_names.proofs.Spelling.{IsReadTo}
use Rattle.net_names.proofs.escapes.unescape.Given as goal

abbrev pub invariant-fronts : goal.invariant-fronts
invariant-fronts l = IsReadTo l.fn.text l.bytes.items l.rest

abbrev pub decreases-fronts : goal.decreases-fronts
decreases-fronts l = length l.rest
