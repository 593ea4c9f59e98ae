use Rattle.std.proofs.Common.{ap, arith, rules, FitsSigned, w64}
use Rattle.std.proofs.lemmas.Int.{ints, to_z-of_z}
use Rattle.geo_base.specs.declared.shapes.Point.{Point}
use Rattle.geo_base.proofs.Moving.{undone, undone_too}
use Rattle.geo_base.proofs.motion.Motion.inverse.Goals as goal

pub returns-clause-back : goal.returns-clause-back
returns-clause-back c =
    let fx : FitsSigned w64 c.args.self.now.dx = search rules in let fy : FitsSigned w64 c.args.self.now.dy = search rules in
    let e = simp to_z-of_z at c.point-shift.ensures.exact in
    let ex = ap (λ (p : Point). p.x) e in let ey = ap (λ (p : Point). p.y) e in
    let low_x = c.point-shift.ensures.near.x.low in let high_x = c.point-shift.ensures.near.x.high in
    let low_y = c.point-shift.ensures.near.y.low in let high_y = c.point-shift.ensures.near.y.high in
    undone c.args.self.now _ c.inverse-turn.ensures.back (omega (arith, ints)) (omega (arith, ints))

pub returns-clause-there : goal.returns-clause-there
returns-clause-there c =
    let fx : FitsSigned w64 c.args.self.now.dx = search rules in let fy : FitsSigned w64 c.args.self.now.dy = search rules in
    let e = simp to_z-of_z at c.point-shift.ensures.exact in
    let ex = ap (λ (p : Point). p.x) e in let ey = ap (λ (p : Point). p.y) e in
    let low_x = c.point-shift.ensures.near.x.low in let high_x = c.point-shift.ensures.near.x.high in
    let low_y = c.point-shift.ensures.near.y.low in let high_y = c.point-shift.ensures.near.y.high in
    undone_too c.args.self.now _ c.inverse-turn.ensures.there (omega (arith, ints)) (omega (arith, ints))

pub returns-clause-near : goal.returns-clause-near
returns-clause-near c =
    let low_x = c.point-shift.ensures.near.x.low in let high_x = c.point-shift.ensures.near.x.high in
    let low_y = c.point-shift.ensures.near.y.low in let high_y = c.point-shift.ensures.near.y.high in
    record {
      dx = record { low = omega (arith, ints); high = omega (arith, ints) };
      dy = record { low = omega (arith, ints); high = omega (arith, ints) };
    }
