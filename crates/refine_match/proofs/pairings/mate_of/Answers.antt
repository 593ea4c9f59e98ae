use Rattle.std.proofs.Common.{◌∙◌, ap, arith}
use Rattle.match_rounds.specs.Sides.{right_members}
use Rattle.refine_match.proofs.Mates.{mate_there}
use Rattle.refine_match.proofs.pairings.mate_of.Goals as goal

pub returns : goal.returns
returns c =
    let past = c.loop-other-test.false in
    absurd (mate_there c.args.graph.now c.args.classes.now c.of.result c.members-other-items.result.now c.requires.partition.inside
    (ap (right_members c.args.graph.now c.args.classes.now) c.of.ensures ∙ c.requires.single c.args.node c.requires.node) c.members-other-items.ensures
    (λ k l. c.loop-other.invariant k (omega arith)))
