use Rattle.refine_match.proofs.Tied.{first_former}
use Rattle.refine_match.proofs.ties.Ties.of.Goals as goal

pub follow-requires-clause-former : goal.follow-requires-clause-former
follow-requires-clause-former c =
    first_former (_) c.args.graph.now c.args.classes.now c.requires c.in_ok-left_classes.ensures.long c.in_ok-left_classes.ensures.each c.new-2.ensures.items c.new-3.ensures.heap_order
