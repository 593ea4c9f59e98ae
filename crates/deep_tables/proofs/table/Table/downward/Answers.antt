use Rattle.std.proofs.Common.{List, ℕ, length, subst, sym, ◌∙◌}
use Rattle.deep_tables.specs.Positions.{AreApartBelow, AreReversed}
use Rattle.deep_tables.proofs.Finding.{by_downward}
use Rattle.deep_tables.proofs.Placing.{order_numbers}
use Rattle.deep_tables.proofs.table.Table.downward.Goals as goal

pub positions_from_end-requires-clause-numbers : goal.positions_from_end-requires-clause-numbers
positions_from_end-requires-clause-numbers g c =
    let d = c.args.design.now in
    subst (λ n. AreApartBelow n c.order.result.now) (sym c.cells.ensures)
    (subst (λ (o : List ℕ). AreApartBelow (length d.cells) o) (sym c.order.ensures) (order_numbers d c.sound.ensures.order))

pub returns : goal.returns
returns g c =
    let d = c.args.design.now in
    let jobs = c.in_ok-jobs.jobs.items in
    by_downward d c.args.results jobs c.sound.ensures.order (c.in_ok-jobs.ensures.count ∙ c.cells.ensures)
    (subst (λ (o : List ℕ). AreReversed o (length o) jobs) c.order.ensures c.in_ok-jobs.ensures.places)
