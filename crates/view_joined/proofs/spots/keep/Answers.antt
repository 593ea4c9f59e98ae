use Rattle.std.proofs.Common.{List, subst, sym}
use Rattle.std.specs.List.{All}
use Rattle.geo_base.specs.declared.motion.Motion.{Motion}
use Rattle.view_netlist.specs.Drawing.{IsSmallShift}
use Rattle.view_drawing.proofs.Placing.{all_one}
use Rattle.view_joined.proofs.spots.keep.Goals as goal

pub returns-clause-small : goal.returns-clause-small
returns-clause-small c h = subst (λ (l : List Motion). All IsSmallShift l) (sym c.in_ok-push.ensures.items) (all_one IsSmallShift c.args.out.now.items c.args.motion h c.requires)
