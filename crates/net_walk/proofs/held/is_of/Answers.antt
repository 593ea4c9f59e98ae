use Rattle.std.proofs.Common.{Some, ap, eqb-true, sym, ◌∙◌}
use Rattle.std.proofs.lemmas.Option.{slice_get-get_or}
use Rattle.net_walk.proofs.held.is_of.Goals as goal

pub returns-then-held-cell : goal.returns-then-held-cell
returns-then-held-cell c =
    let h = c.in-Some.held.now in
    let l = c.in-Some.ensures.lookup in
    λ e. (h, slice_get-get_or c.args.lists.now c.args.position h l.3.0 ∙ ap Some (sym l.1), c.if-held-cell.true, eqb-true h.conductor c.args.conductor e)
