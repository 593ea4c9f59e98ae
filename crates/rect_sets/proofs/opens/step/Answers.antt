use Rattle.std.proofs.Common.{rules, w64}
use mir.Val.{SFits}
use Rattle.std.proofs.lemmas.Int.{to_z-of_z}
use Rattle.rect_sets.proofs.Joining.{step_none}
use Rattle.rect_sets.proofs.opens.step.Goals as goal

pub loop-j-init : goal.loop-j-init
loop-j-init c =
    let fy : SFits w64 c.args.y = search rules in
    rw (c.clear.ensures.items, to_z-of_z w64 c.args.y fy) (step_none c.args.y c.args.opens.now c.args.runs.now c.requires.opens.0 c.requires.runs.0 c.args.closed.now.items c.requires.opens.1 c.requires.runs.1)
