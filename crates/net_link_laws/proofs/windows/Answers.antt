use Rattle.net_link_laws.proofs.Looking.{own_links, beside_links, contact_links, alike, children_links, hulls}
use Rattle.net_link_laws.proofs.windows.Goals as goal

pub returns : goal.returns
returns c = record { own = own_links; beside = beside_links; contact = contact_links; alike = alike; children = children_links; hulls = hulls }
