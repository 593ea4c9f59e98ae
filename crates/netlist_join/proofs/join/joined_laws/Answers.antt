use Rattle.netlist_join.proofs.Present.{all_there}
use Rattle.netlist_join.proofs.join.joined_laws.Goals as goal

pub returns : goal.returns
returns c = all_there
