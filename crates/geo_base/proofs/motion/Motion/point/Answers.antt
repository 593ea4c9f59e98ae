use Rattle.std.proofs.Common.{ap, arith}
use Rattle.std.proofs.lemmas.Int.{ints}
use Rattle.geo_base.specs.declared.shapes.Point.{Point}
use Rattle.geo_base.proofs.Turning.{same_point}
use Rattle.geo_base.proofs.motion.Motion.point.Goals as goal

pub returns-clause-exact : goal.returns-clause-exact
returns-clause-exact c =
    let ex = ap (λ (p : Point). p.x) c.point-turned.ensures.exact in
    let ey = ap (λ (p : Point). p.y) c.point-turned.ensures.exact in
    same_point _ _ (omega (arith, ints)) (omega (arith, ints))
