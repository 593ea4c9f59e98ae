use Rattle.match_graph.specs.Graph.{nodes_of}
use Rattle.match_rounds.specs.Classes.{class_in}
use Rattle.refine_match.proofs.InOrder.{in_order}
use Rattle.refine_match.proofs.lefts.list_within.Goals as goal

pub returns : goal.returns
returns c =
    in_order c.members.result.now c.take_within.new.found.items c.sort_unstable.new.self.items (class_in c.args.classes.now) c.args.from c.args.to (nodes_of c.args.graph.now) c.args.class
    c.members.ensures c.requires.inside c.in_ok-take_within.ensures c.sort_unstable.ensures.permutation c.sort_unstable.ensures.sorted
