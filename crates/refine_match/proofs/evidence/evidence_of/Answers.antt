use Rattle.std.proofs.Common.{refl, ◌∙◌, ap, arith}
use Rattle.match_types.specs.Plain.{plain_node}
use Rattle.match_rounds.specs.Sides.{left_members, right_members}
use Rattle.refine_match.proofs.Uneven.{some_uneven, is_evidence, least_below}
use Rattle.refine_match.proofs.evidence.evidence_of.Goals as goal

pub least_uneven-node-requires-clause-some : goal.least_uneven-node-requires-clause-some
least_uneven-node-requires-clause-some c = some_uneven c.args.graph.now c.args.classes.now c.args.round c.requires.refuted

pub of-class-requires : goal.of-class-requires
of-class-requires c =
    let l = least_below c.args.graph.now c.args.classes.now c.least_uneven-node.result c.requires.graph c.least_uneven-node.ensures in
    let long = c.requires.partition.classes.long in
    omega arith

pub node-requires-clause-node : goal.node-requires-clause-node
node-requires-clause-node c = least_below c.args.graph.now c.args.classes.now c.least_uneven-node.result c.requires.graph c.least_uneven-node.ensures

pub returns : goal.returns
returns c = λ p h good. (
  refl,
  is_evidence p c.args.graph.now c.args.classes.now c.args.round c.least_uneven-node.result c.left_size.result c.right_size.result (plain_node c.node.result) h good c.requires.refuted c.least_uneven-node.ensures
      (c.node.ensures p h)
      (c.left_size.ensures ∙ ap (left_members c.args.graph.now c.args.classes.now) c.of-class.ensures)
      (c.right_size.ensures ∙ ap (right_members c.args.graph.now c.args.classes.now) c.of-class.ensures),
)
