use Rattle.gate_phase.proofs.Owning.{told_own}
use Rattle.gate_phase.proofs.own.is_own.Goals as goal

pub returns : goal.returns
returns c =
    told_own c.args.at.now.reach c.args.at.now.site.design.now c.args.at.now.site.zones.now c.args.at.now.site.cell c.args.at.now.number c.args.part.now c.args.close.now c.args.least c.unit-start.result c.in_ok-below.below c.unit-start.ensures.exact (c.in_ok-is_kept.ensures.0 c.if-not-branch.false) c.in_ok-below.ensures
