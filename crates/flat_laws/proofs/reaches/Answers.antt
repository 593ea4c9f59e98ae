use Rattle.flat_laws.proofs.Names.{still, near_input}
use Rattle.flat_laws.proofs.reaches.Goals as goal

pub returns : goal.returns
returns c = record { still = still; near = near_input }
