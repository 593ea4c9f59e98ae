use Rattle.geo_base.proofs.Turning.{twice_turned}
use Rattle.geo_base.proofs.motion.Turn.inverse.Goals as goal

pub returns-in_default : goal.returns-in_default
returns-in_default c =
    let once = twice_turned c.args.self c.in_default.not-R90 c.in_default.not-R270 in
    record { back = once; there = once }
