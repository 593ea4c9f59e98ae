use Rattle.std.proofs.Common.{◌≡◌, length}
use Rattle.script_lexis.specs.Lines.{leads}
use Rattle.script_lexis.specs.Seen.{seen_all}
use Rattle.script_lexis.proofs.lines.leads.Given as goal

abbrev pub invariant-rest : goal.invariant-rest
invariant-rest l = leads (seen_all l.rest) ≡ leads (seen_all l.tokens)

abbrev pub decreases-rest : goal.decreases-rest
decreases-rest l = length l.rest
