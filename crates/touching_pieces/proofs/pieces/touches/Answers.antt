use Rattle.std.proofs.Common.{sym, ◌∙◌}
use Rattle.touching_pieces.proofs.Sides.{touching, touching_back}
use Rattle.touching_pieces.proofs.pieces.touches.Goals as goal

pub returns : goal.returns
returns c = (
  (λ e. touching c.args.a.now c.args.b.now (sym c.touches_by_sides.ensures ∙ e)),
  (λ h. c.touches_by_sides.ensures ∙ touching_back c.args.a.now c.args.b.now h),
)
