use Rattle.std.proofs.Common.{subst, sym}
use Rattle.net_walk.specs.Walk.{HaveArea}
use Rattle.view_drawing.proofs.Bounding.{own_area}
use Rattle.view_drawing.proofs.placed.PlacedCells.own.Goals as goal

pub returns-clause-filled : goal.returns-clause-filled
returns-clause-filled c = subst HaveArea (sym c.rects_at.ensures) (own_area c.self.inside c.self.invariant c.args.cell c.args.conductor)
