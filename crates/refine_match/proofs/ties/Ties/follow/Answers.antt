use Rattle.std.proofs.Common.{◌∙◌}
use Rattle.refine_match.proofs.Tied.{followed, long_late, low_late, moved_from, ordered_listed, spans_listed}
use Rattle.refine_match.proofs.ties.Ties.follow.Goals as goal

pub renew_moved-requires-clause-moved : goal.renew_moved-requires-clause-moved
renew_moved-requires-clause-moved c =
    moved_from c.args.self.now c.list_new.new.self c.args.graph.now c.args.classes.now c.len-from.result c.requires.former c.in_ok-list_new.ensures (c.len-from.ensures ∙ c.args.self.now.nodes.ok.0)

pub renew_moved-requires-clause-spans : goal.renew_moved-requires-clause-spans
renew_moved-requires-clause-spans c = spans_listed c.args.self.now c.list_new.new.self c.args.graph.now c.args.classes.now c.requires.former c.in_ok-list_new.ensures

pub renew_moved-requires-clause-ordered : goal.renew_moved-requires-clause-ordered
renew_moved-requires-clause-ordered c = ordered_listed c.args.self.now c.list_new.new.self c.args.graph.now c.args.classes.now c.requires.former c.in_ok-list_new.ensures

pub take_classes-requires-clause-low : goal.take_classes-requires-clause-low
take_classes-requires-clause-low c =
    low_late c.args.self.now c.list_new.new.self c.renew_moved.new.self c.args.graph.now c.args.classes.now c.len-from.result c.in_ok-list_new.ensures (c.len-from.ensures ∙ c.args.self.now.nodes.ok.0) c.in_ok-renew_moved.ensures

pub take_classes-requires-clause-long : goal.take_classes-requires-clause-long
take_classes-requires-clause-long c =
    long_late c.args.self.now c.list_new.new.self c.renew_moved.new.self c.args.graph.now c.args.classes.now c.len-from.result c.requires.former c.in_ok-list_new.ensures c.in_ok-renew_moved.ensures

pub returns : goal.returns
returns c =
    followed c.args.self.now c.list_new.new.self c.renew_moved.new.self c.take_classes.new.self c.args.graph.now c.args.classes.now c.len-from.result c.requires.partition c.requires.former (c.len-from.ensures ∙ c.args.self.now.nodes.ok.0)
    c.in_ok-list_new.ensures c.in_ok-renew_moved.ensures c.take_classes.ensures
