use Rattle.net_walk.proofs.OwnBeside.{beside_pair}
use Rattle.net_walk.proofs.beside.beside_law.Goals as goal

pub returns : goal.returns
returns c = beside_pair
