use Rattle.std.proofs.Common.{sym, ◌∙◌, ap, arith}
use Rattle.match_rounds.specs.Sides.{left_members, right_members}
use Rattle.refine_match.proofs.Uneven.{even_more}
use Rattle.refine_match.proofs.evidence.first_uneven.Goals as goal

pub loop-node-preserved : goal.loop-node-preserved
loop-node-preserved c =
    even_more c.args.graph.now c.args.classes.now c.args.from c.loop-node.node c.left_size.result c.right_size.result c.loop-node.invariant c.if-left_size-right_size.false
    (λ u e. u (ap (left_members c.args.graph.now c.args.classes.now) (sym c.of-class.ensures)
    ∙ (sym c.left_size.ensures ∙ (e ∙ (c.right_size.ensures ∙ ap (right_members c.args.graph.now c.args.classes.now) c.of-class.ensures)))))

pub returns-clause-none : goal.returns-clause-none
returns-clause-none c = λ e a lo hi u. c.loop-node.invariant a lo (let t = c.loop-node-test.false in let n = c.loop-node.auto.node in omega arith) u
