use Rattle.std.proofs.Common.{List, rules, subst, sym}
use Rattle.std.specs.List.{All}
use Rattle.geo_base.specs.declared.motion.Motion.{Motion}
use Rattle.view_netlist.specs.Drawing.{IsSmallShift}
use Rattle.view_drawing.proofs.Placing.{all_one}
use Rattle.view_drawing.proofs.calls.keep.Goals as goal

pub returns-in-Ok-clause-small : goal.returns-in-Ok-clause-small
returns-in-Ok-clause-small c h = subst (λ (l : List Motion). All IsSmallShift l) (sym c.in-Ok.ensures.items) (all_one IsSmallShift c.args.out.now.items c.args.motion h (c.is_small_shift.ensures.0 (search rules)))
