use Rattle.std.proofs.Common.{◌^◌, sym, subst}
use Rattle.cell_graph.specs.Linked.{IsRectWithin}
use Rattle.cell_context.proofs.Reaching.{turned_within}
use Rattle.cell_context.proofs.arrays.turned_hull.Goals as goal

pub returns-clause-near : goal.returns-clause-near
returns-clause-near c = subst (IsRectWithin (2 ^ 37)) (sym c.rect.ensures.corners) (turned_within (2 ^ 37) c.args.place.now.motion.turn c.args.hull.now c.requires.hull.near)
