use Rattle.region_asks.proofs.Answering.{area_told}
use Rattle.region_asks.proofs.asks.has_area.Goals as goal

pub returns : goal.returns
returns c = area_told c.args.part.now c.args.low c.in_ok-n.n c.args.high c.is_between.result c.in_ok-n.ensures.count c.is_between.ensures
