use Rattle.std.proofs.Common.{ap, arith, rules, FitsSigned, w64}
use Rattle.std.proofs.lemmas.Int.{ints, clamps, to_z-of_z}
use Rattle.geo_base.specs.declared.shapes.Point.{Point}
use Rattle.geo_base.proofs.Spans.{same_rect}
use Rattle.view_joined.proofs.moved.moved_rect.Goals as goal

pub returns : goal.returns
returns c =
    let x1 : FitsSigned w64 c.args.r.now.x1 = search rules in let y1 : FitsSigned w64 c.args.r.now.y1 = search rules in
    let x2 : FitsSigned w64 c.args.r.now.x2 = search rules in let y2 : FitsSigned w64 c.args.r.now.y2 = search rules in
    let p = simp to_z-of_z at c.point-p.ensures.exact in let q = simp to_z-of_z at c.point-q.ensures.exact in
    let px = ap (λ (p : Point). p.x) p in let py = ap (λ (p : Point). p.y) p in
    let qx = ap (λ (p : Point). p.x) q in let qy = ap (λ (p : Point). p.y) q in
    let fpx : FitsSigned w64 c.point-p.result.x = search rules in let fpy : FitsSigned w64 c.point-p.result.y = search rules in
    let fqx : FitsSigned w64 c.point-q.result.x = search rules in let fqy : FitsSigned w64 c.point-q.result.y = search rules in
    same_rect _ _ (omega (arith, ints, clamps)) (omega (arith, ints, clamps)) (omega (arith, ints, clamps)) (omega (arith, ints, clamps))
