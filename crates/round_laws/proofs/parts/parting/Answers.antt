use Rattle.round_laws.proofs.Few.{few}
use Rattle.round_laws.proofs.parts.parting.Goals as goal

pub returns : goal.returns
returns c = record { few = few }
