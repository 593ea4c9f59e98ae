use Rattle.std.proofs.Common.{sym, ◌∙◌}
use Rattle.cell_context.proofs.Gathering.{over_flat}
use Rattle.cell_context.proofs.flats.collect.Goals as goal

pub returns : goal.returns
returns c = λ q. let e = c.in_ok-set.ensures q in let x = c.in_ok-rects.ensures.exact q in let o = over_flat c.args.design.now c.sound.ensures c.args.cell c.args.key q in (
  (λ h. let g = x.0 (sym e ∙ h) in (g.0, o.0 g.1)),
  (λ h. e ∙ x.1 (h.0, o.1 h.1)),
)
