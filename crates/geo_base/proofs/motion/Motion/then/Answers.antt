use Rattle.std.proofs.Common.{ap, arith, rules, FitsSigned, w64}
use Rattle.std.proofs.lemmas.Int.{ints, to_z-of_z}
use Rattle.geo_base.specs.declared.shapes.Point.{Point}
use Rattle.geo_base.proofs.Turning.{same_point}
use Rattle.geo_base.proofs.Moving.{after}
use Rattle.geo_base.proofs.motion.Motion.then.Goals as goal

pub returns-clause-after : goal.returns-clause-after
returns-clause-after c =
    let fx : FitsSigned w64 c.args.self.now.dx = search rules in let fy : FitsSigned w64 c.args.self.now.dy = search rules in
    let e = simp to_z-of_z at c.point-shift.ensures.exact in
    let ex = ap (λ (p : Point). p.x) e in let ey = ap (λ (p : Point). p.y) e in
    let rx : FitsSigned w64 c.point-shift.result.x = search rules in let ry : FitsSigned w64 c.point-shift.result.y = search rules in
    after c.args.self.now c.args.outer.now _ c.then.ensures (same_point _ _ (omega (arith, ints)) (omega (arith, ints)))
