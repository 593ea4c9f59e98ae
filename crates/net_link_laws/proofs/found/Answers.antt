use Rattle.net_link_laws.proofs.Assembling.{all_found}
use Rattle.net_link_laws.proofs.Grounds.{found_links}
use Rattle.net_link_laws.proofs.Numbering.{classes}
use Rattle.net_link_laws.proofs.found.Goals as goal

pub returns : goal.returns
returns c = record { chains = found_links; classes = classes; all = all_found }
