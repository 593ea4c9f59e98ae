use Rattle.std.proofs.Common.{arith}
use Rattle.std.proofs.lemmas.Int.{ints}
use Rattle.geo_base.proofs.Turning.{same_square}
use Rattle.geo_base.proofs.Images.{one_image}
use Rattle.geo_base.proofs.motion.Motion.square.Goals as goal

pub returns-clause-exact : goal.returns-clause-exact
returns-clause-exact c =
    let low_x = c.square-turned.ensures.x_within.low in let high_x = c.square-turned.ensures.x_within.high in
    let low_y = c.square-turned.ensures.y_within.low in let high_y = c.square-turned.ensures.y_within.high in
    same_square _ _ (omega (arith, ints)) (omega (arith, ints))

pub returns-clause-centre : goal.returns-clause-centre
returns-clause-centre c = (one_image c.args.self.now c.args.s _).1 (returns-clause-exact c)
