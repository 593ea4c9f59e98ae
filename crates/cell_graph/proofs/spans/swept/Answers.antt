use Rattle.std.proofs.Common.{◌≡◌, ◌+ℤ◌, rules, FitsSigned, w64}
use Rattle.std.proofs.lemmas.Int.{to_z-of_z}
use Rattle.geo_base.specs.declared.shapes.Rect.{Rect}
use Rattle.cell_graph.specs.Spans.{IsSwept}
use Rattle.cell_graph.proofs.spans.swept.Goals as goal

pub returns : goal.returns
returns c =
    let t = c.args.r in
    let o = c.args.o in
    let t1 : FitsSigned w64 t.x1 = search rules in
    let t2 : FitsSigned w64 t.y1 = search rules in
    let t3 : FitsSigned w64 t.x2 = search rules in
    let t4 : FitsSigned w64 t.y2 = search rules in
    let xl : FitsSigned w64 o.x.low = search rules in
    let xh : FitsSigned w64 o.x.high = search rules in
    let yl : FitsSigned w64 o.y.low = search rules in
    let yh : FitsSigned w64 o.y.high = search rules in
    let r1 : FitsSigned w64 c.plus.result = search rules in
    let r2 : FitsSigned w64 c.plus-2.result = search rules in
    let r3 : FitsSigned w64 c.plus-3.result = search rules in
    let r4 : FitsSigned w64 c.plus-4.result = search rules in
    let h1 : c.plus.result ≡ t.x1 +ℤ o.x.low = simp to_z-of_z at c.plus.ensures in
    let h2 : c.plus-2.result ≡ t.y1 +ℤ o.y.low = simp to_z-of_z at c.plus-2.ensures in
    let h3 : c.plus-3.result ≡ t.x2 +ℤ o.x.high = simp to_z-of_z at c.plus-3.ensures in
    let h4 : c.plus-4.result ≡ t.y2 +ℤ o.y.high = simp to_z-of_z at c.plus-4.ensures in
    let r : Rect = record { x1 = c.plus.result; y1 = c.plus-2.result; x2 = c.plus-3.result; y2 = c.plus-4.result } in
    let h : IsSwept t o r = record { x1 = h1; y1 = h2; x2 = h3; y2 = h4 } in
    simp to_z-of_z h
