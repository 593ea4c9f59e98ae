use Rattle.std.proofs.Common.{sym, subst}
use Rattle.geo_base.specs.Near.{IsNearMotion}
use Rattle.cell_context.proofs.Visiting.{near_motion}
use Rattle.cell_context.proofs.arrays.motion_at.Goals as goal

pub returns-clause-near : goal.returns-clause-near
returns-clause-near c = subst IsNearMotion (sym c.element_motion.ensures) (near_motion c.args.place.now c.args.row c.args.column c.requires.near c.requires.row c.requires.column)
