use Rattle.gate_shapes.specs.Shapes.{Meet}
use Rattle.region_asks.proofs.Answering.{not_told}
use Rattle.region_asks.proofs.asks.miss.Goals as goal

pub returns : goal.returns
returns c = not_told c.in_ok-met.met (Meet c.args.one.now c.args.other.now) c.in_ok-met.ensures
