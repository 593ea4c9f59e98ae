use Rattle.std.proofs.Common.{◌≡◌, Some}
use Rattle.cell_graph.proofs.Widening.{widens_both, widens_with}
use Rattle.cell_graph.proofs.bounds.with_corners.Goals as goal

pub returns : goal.returns
returns c = widens_both c.args.bounds (Some c.with_point-one.result) (Some c.with_point.result) (λ p. p ≡ c.args.low) (λ p. p ≡ c.args.high)
    (widens_with c.args.bounds c.args.low c.with_point-one.result c.with_point-one.ensures)
    (widens_with (Some c.with_point-one.result) c.args.high c.with_point.result c.with_point.ensures)
