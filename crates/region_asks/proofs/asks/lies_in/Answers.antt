use Rattle.region_asks.proofs.Answering.{within_told}
use Rattle.region_asks.proofs.asks.lies_in.Goals as goal

pub returns : goal.returns
returns c = within_told c.args.one.now c.args.other.now c.in_ok-outside.outside c.has_square.result c.in_ok-outside.ensures c.has_square.ensures
