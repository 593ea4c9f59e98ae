use Rattle.std.proofs.Common.{sym, subst}
use Rattle.std.specs.List.{All}
use Rattle.cell_context.specs.Visits.{IsElementOf, IsElementVisit}
use Rattle.cell_context.proofs.Adding.{adds_each, adds_found, all_none}
use Rattle.cell_context.proofs.arrays.place_visits.Goals as goal

pub returns-clause-each : goal.returns-clause-each
returns-clause-each c =
    let p = c.args.place.now in let hull = c.args.hull.now in let w = c.args.window.now in
    adds_each p hull w (IsElementOf p) _ c.push_elements.new.out.items (c.in_ok-push_elements.ensures {u = tt}) (subst (All (IsElementVisit p hull w)) (sym c.new-out.ensures.items) (all_none (IsElementVisit p hull w)))

pub returns-clause-found : goal.returns-clause-found
returns-clause-found c = λ row column q low left met.
    let p = c.args.place.now in
    adds_found p c.args.hull.now c.args.window.now (IsElementOf p) _ c.push_elements.new.out.items row column q (c.in_ok-push_elements.ensures {u = tt}) (low, left) met
