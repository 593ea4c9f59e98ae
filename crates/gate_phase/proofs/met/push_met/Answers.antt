use Rattle.std.proofs.Common.{[], ◌∷◌}
use Rattle.gate_phase.proofs.Keeping.{listed_first}
use Rattle.gate_phase.proofs.met.push_met.Goals as goal

pub returns-else-meets-clause-listed : goal.returns-else-meets-clause-listed
returns-else-meets-clause-listed c = λ r l. listed_first r c.args.out.now.items (c.args.rect.now ∷ []) l
