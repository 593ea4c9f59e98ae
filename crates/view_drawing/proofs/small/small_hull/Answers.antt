use Rattle.std.proofs.Common.{◌∙◌, sym}
use Rattle.std.proofs.lemmas.Bool.{false≢true}
use Rattle.view_drawing.proofs.small.small_hull.Goals as goal

pub returns-else-is_small_rect-clause-far : goal.returns-else-is_small_rect-clause-far
returns-else-is_small_rect-clause-far c s = (c.in-Some.r, c.in-Some.is, λ small. false≢true (sym c.if-is_small_rect.false ∙ c.is_small_rect.ensures.1 small))
