use Rattle.view_netlist.proofs.ClassNames.{one_name}
use Rattle.view_netlist.proofs.laws.class_names.Goals as goal

pub returns : goal.returns
returns c = one_name
