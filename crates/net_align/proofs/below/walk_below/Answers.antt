use Rattle.net_model.specs.Rows.{plain_netlist}
use Rattle.net_align.proofs.BelowTop.{calls_there}
use Rattle.net_align.proofs.Placed.{low_in}
use Rattle.net_align.proofs.There.{closed_reached}
use Rattle.net_align.proofs.below.walk_below.Goals as goal

pub circuit_order-requires-clause-calls : goal.circuit_order-requires-clause-calls
circuit_order-requires-clause-calls c = calls_there (plain_netlist c.args.netlist.now) c.requires.sound

pub reached-requires-clause-calls : goal.reached-requires-clause-calls
reached-requires-clause-calls c = calls_there (plain_netlist c.args.netlist.now) c.requires.sound

pub returns-clause-tables : goal.returns-clause-tables
returns-clause-tables c =
    let nl = plain_netlist c.args.netlist.now in
    let low = low_in c.args.netlist.now c.args.top c.requires.top in record {
      order = c.in_ok-order.ensures;
      closed = closed_reached nl c.args.top c.in_ok-order.order.items c.in_ok-reached.reached.items c.in_ok-order.ensures low c.in_ok-reached.ensures (calls_there nl c.requires.sound);
      holds = c.in_ok-holds.ensures;
    }
