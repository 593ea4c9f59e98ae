use Rattle.net_link_laws.proofs.Collecting.{collected}
use Rattle.net_link_laws.proofs.Held.{one_net, conductor}
use Rattle.net_link_laws.proofs.collected.Goals as goal

pub returns : goal.returns
returns c = record { pieces = collected; net = one_net; conductor = conductor }
