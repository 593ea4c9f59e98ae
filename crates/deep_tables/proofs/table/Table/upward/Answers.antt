use Rattle.std.proofs.Common.{List, ℕ, length, subst, sym, ◌∙◌}
use Rattle.deep_tables.specs.Positions.{AreApartBelow, ArePositions}
use Rattle.deep_tables.proofs.Finding.{by_upward}
use Rattle.deep_tables.proofs.Placing.{order_numbers}
use Rattle.deep_tables.proofs.table.Table.upward.Goals as goal

pub positions-requires-clause-numbers : goal.positions-requires-clause-numbers
positions-requires-clause-numbers g c =
    let d = c.args.design.now in
    subst (λ n. AreApartBelow n c.order.result.now) (sym c.cells.ensures)
    (subst (λ (o : List ℕ). AreApartBelow (length d.cells) o) (sym c.order.ensures) (order_numbers d c.sound.ensures.order))

pub returns : goal.returns
returns g c =
    let d = c.args.design.now in
    let jobs = c.in_ok-jobs.jobs.items in
    by_upward d c.args.results jobs c.sound.ensures.order (c.in_ok-jobs.ensures.count ∙ c.cells.ensures)
    (subst (λ (o : List ℕ). ArePositions o (length o) jobs) c.order.ensures c.in_ok-jobs.ensures.places)
