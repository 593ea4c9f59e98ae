use Rattle.net_walk.proofs.Pairing.{pair}
use Rattle.net_walk.proofs.seen.pair_law.Goals as goal

pub returns : goal.returns
returns c = pair
