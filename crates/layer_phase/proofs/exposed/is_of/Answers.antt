use Rattle.std.proofs.Common.{Some, ap, eqb-true, sym, ◌∙◌}
use Rattle.std.proofs.lemmas.Option.{slice_get-get_or}
use Rattle.layer_phase.proofs.exposed.is_of.Goals as goal

pub returns-in-Some : goal.returns-in-Some
returns-in-Some c =
    let h = c.in-Some.exposed.now in
    let l = c.in-Some.ensures.lookup in
    λ e. (h, slice_get-get_or c.args.lists.now c.args.position h l.3.0 ∙ ap Some (sym l.1), eqb-true h.cell c.args.cell e)
