use Rattle.region_asks.proofs.Answering.{meet_told}
use Rattle.region_asks.proofs.asks.meet.Goals as goal

pub returns : goal.returns
returns c = meet_told c.args.one.now c.args.other.now c.in_ok-both.both c.has_square.result c.in_ok-both.ensures c.has_square.ensures
