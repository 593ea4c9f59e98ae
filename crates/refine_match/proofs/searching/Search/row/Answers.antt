use Rattle.std.proofs.Common.{◌∙◌}
use Rattle.refine_match.proofs.TriedRows.{row_is}
use Rattle.refine_match.proofs.searching.Search.row.Goals as goal

pub returns-clause-row : goal.returns-clause-row
returns-clause-row c = λ p h.
    row_is p c.args.graph.now c.args.self.now c.args.candidate h c.in_ok-number.field-0 c.node-left.result c.node-right.result c.args.end
    (c.in_ok-number.ensures.ok ∙ (c.len.ensures ∙ c.args.self.now.guesses.ok.0)) (c.node-left.ensures p h.search.told.graph) (c.node-right.ensures p h.search.told.graph)
