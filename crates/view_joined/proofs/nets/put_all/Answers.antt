use Rattle.std.proofs.Common.{subst, sym}
use Rattle.view_netlist.specs.Drawing.{IsSmallShift}
use Rattle.view_joined.proofs.Small.{shift_at}
use Rattle.view_joined.proofs.nets.put_all.Goals as goal

pub put_drawn-requires-clause-motion : goal.put_drawn-requires-clause-motion
put_drawn-requires-clause-motion c = subst IsSmallShift (sym c.motion_at.ensures) (shift_at c.args.motions.now c.spots.i c.requires.motions)
