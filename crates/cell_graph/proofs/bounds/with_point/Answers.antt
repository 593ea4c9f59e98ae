use Rattle.std.proofs.Common.{rules, FitsSigned, w64}
use Rattle.std.proofs.lemmas.Int.{to_z-of_z}
use Rattle.cell_graph.specs.declared.bounds.Bounds.{Bounds}
use Rattle.cell_graph.specs.Bounds.{IsLow, IsHigh, IsWider}
use Rattle.cell_graph.proofs.bounds.with_point.Goals as goal

pub returns-in-Some : goal.returns-in-Some
returns-in-Some c =
    let b = c.in-Some.b in
    let p = c.args.p in
    let px : FitsSigned w64 p.x = search rules in
    let py : FitsSigned w64 p.y = search rules in
    let bx1 : FitsSigned w64 b.x1 = search rules in
    let by1 : FitsSigned w64 b.y1 = search rules in
    let bx2 : FitsSigned w64 b.x2 = search rules in
    let by2 : FitsSigned w64 b.y2 = search rules in
    let x1 : FitsSigned w64 c.low.result = search rules in
    let y1 : FitsSigned w64 c.low-in-Some.result = search rules in
    let x2 : FitsSigned w64 c.high.result = search rules in
    let y2 : FitsSigned w64 c.high-in-Some.result = search rules in
    let hx1 : IsLow b.x1 p.x c.low.result = simp to_z-of_z at c.low.ensures in
    let hy1 : IsLow b.y1 p.y c.low-in-Some.result = simp to_z-of_z at c.low-in-Some.ensures in
    let hx2 : IsHigh b.x2 p.x c.high.result = simp to_z-of_z at c.high.ensures in
    let hy2 : IsHigh b.y2 p.y c.high-in-Some.result = simp to_z-of_z at c.high-in-Some.ensures in
    let r : Bounds = record { x1 = c.low.result; y1 = c.low-in-Some.result; x2 = c.high.result; y2 = c.high-in-Some.result } in
    let h : IsWider b p r = record { left_is = hx1; low_is = hy1; right_is = hx2; high_is = hy2 } in
    rw c.in-Some.is (simp to_z-of_z h)
