use Rattle.std.proofs.Common.{◌∙◌}
use Rattle.refine_match.proofs.Steps.{deeper_way}
use Rattle.refine_match.proofs.searching.Search.descend.Goals as goal

pub returns-clause-way : goal.returns-clause-way
returns-clause-way c = λ p h.
    deeper_way p c.args.graph.now c.args.self.now c.args.candidate h c.in_ok-row.row c.args.node c.first_try-self.result c.len.result c.push.new.self c.push-2.new.self
    c.requires.partition c.requires.settled c.requires.lists c.requires.least c.first_try-self.ensures.node c.first_try-self.ensures.last
    (c.in_ok-row.ensures.row p h) (c.len.ensures ∙ c.args.self.now.rows.ok.0) c.in_ok-push.ensures.items c.in_ok-push-2.ensures.items
