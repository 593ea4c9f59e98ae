use Rattle.refine_match.proofs.Decided.{if_ok}
use Rattle.refine_match.proofs.namesakes.list_namesakes.Goals as goal

pub returns : goal.returns
returns c = if_ok c.namesakes_by.result c.namesakes_by.ensures (λ found f. f c.args.right.now c.in_ok-firsts.ensures)
