use Rattle.match_types.specs.Plain.{plain_kind}
use Rattle.match_graph.proofs.Named.{left_numbered, right_numbered}
use Rattle.match_graph.proofs.graph.Graph.node.Goals as goal

pub returns-then-node-self : goal.returns-then-node-self
returns-then-node-self c p h =
    left_numbered p c.args.self.now (plain_kind c.kind_of-kind.result.0) c.kind_of-kind.result.1 c.args.node h c.kind_of-kind.ensures.place c.kind_of-kind.ensures.number

pub returns-else-node-self : goal.returns-else-node-self
returns-else-node-self c p h =
    right_numbered p c.args.self.now (plain_kind c.kind_of-kind-else-node-self.result.0) c.kind_of-kind-else-node-self.result.1 c.args.node h c.kind_of-kind-else-node-self.ensures.place
    c.kind_of-kind-else-node-self.ensures.number
