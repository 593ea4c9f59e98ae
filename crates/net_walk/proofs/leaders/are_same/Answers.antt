use Rattle.std.proofs.Common.{◌∙◌, sym}
use Rattle.net_walk.proofs.Motions.{same_element, same_motion}
use Rattle.net_walk.proofs.leaders.are_same.Goals as goal

pub returns : goal.returns
returns c = λ e. same_element c.args.one.now c.args.other.now c.if-one-other.false (same_motion c.args.one.now.motion c.args.other.now.motion (sym c.eq.ensures ∙ e))
