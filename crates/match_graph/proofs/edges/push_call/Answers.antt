use Rattle.match_graph.specs.Edges.{now_of}
use Rattle.match_graph.proofs.Listed.{pin_step}
use Rattle.match_graph.proofs.edges.push_call.Goals as goal

pub loop-i-preserved : goal.loop-i-preserved
loop-i-preserved c =
    pin_step c.args.first c.args.owner (now_of c.args.pins) c.args.nets.now c.loop-i.i c.in_ok-pin.pin c.args.edges.now.items c.loop-i.edges.items c.push_edge.new.edges.items
    c.loop-i.invariant c.in_ok-pin.ensures.pin c.in_ok-push_edge.ensures
