use Rattle.call_order.proofs.Results.{no_cycle}
use Rattle.call_order.proofs.order.order_laws.Goals as goal

pub returns : goal.returns
returns c = record { no_cycle = no_cycle }
