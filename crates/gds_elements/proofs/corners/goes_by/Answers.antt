use Rattle.std.proofs.Common.{sym, ◌∙◌}
use Rattle.gds_elements.proofs.SamePoints.{went}
use Rattle.gds_elements.proofs.corners.goes_by.Goals as goal

pub returns : goal.returns
returns c = λ h. went c.args.a c.args.b c.args.c c.args.d c.args.e c.args.p c.args.q (sym c.are_same.ensures ∙ h)
