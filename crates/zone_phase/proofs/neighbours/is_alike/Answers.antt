use Rattle.std.proofs.Common.{◌∙◌, sym}
use Rattle.zone_phase.proofs.Nearing.{same_motion}
use Rattle.zone_phase.proofs.neighbours.is_alike.Goals as goal

pub returns : goal.returns
returns c = λ e. (c.if-known-cell.false, same_motion c.args.known.now.relative c.args.relative.now (sym c.eq.ensures ∙ e))
