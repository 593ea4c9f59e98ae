use Rattle.netlist_file.proofs.Alike.{one_netlist, ordered_once}
use Rattle.netlist_file.proofs.one.one_netlist.Goals as goal

pub returns : goal.returns
returns c = record {
  netlist = one_netlist c.design_laws.ensures.level c.design_laws.ensures.order c.one_text.ensures;
  order = ordered_once c.design_laws.ensures.level c.design_laws.ensures.order c.one_text.ensures;
}
