use Rattle.net_walk.proofs.Wholes.{whole}
use Rattle.net_walk.proofs.whole.whole_law.Goals as goal

pub returns : goal.returns
returns c = whole
