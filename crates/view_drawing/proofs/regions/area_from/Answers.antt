use Rattle.std.proofs.Common.{inr}
use Rattle.view_drawing.proofs.regions.area_from.Goals as goal

pub returns-clause-far : goal.returns-clause-far
returns-clause-far c s = inr (c.rects_from.ensures.far s)
