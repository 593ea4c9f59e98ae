use Rattle.refine_match.proofs.Tried.{next_of, node_low}
use Rattle.refine_match.proofs.searching.Search.next.Goals as goal

pub next_candidate-requires-clause-node : goal.next_candidate-requires-clause-node
next_candidate-requires-clause-node c = node_low c.requires.way.0 c.args.sides.now.graph.now c.args.self.now c.requires.way.1

pub returns-clause-next : goal.returns-clause-next
returns-clause-next c = λ p h way.
    next_of p c.args.sides.now.graph.now c.args.sides.now.left.now c.args.sides.now.right.now c.args.self.now way c.next_candidate.result c.next_candidate.ensures.0 h c.next_candidate.ensures.1 c.next_candidate.ensures.2
