use Rattle.std.proofs.Common.{◌≡◌, ◌+ℤ◌, rules, FitsSigned, w64}
use Rattle.std.proofs.lemmas.Int.{to_z-of_z}
use Rattle.cell_graph.specs.declared.bounds.Bounds.{Bounds}
use Rattle.cell_graph.specs.Arrays.{IsSpread}
use Rattle.cell_graph.proofs.arrays.spread.Goals as goal

pub returns : goal.returns
returns c =
    let b = c.args.b in
    let x = c.args.x in
    let y = c.args.y in
    let b1 : FitsSigned w64 b.x1 = search rules in
    let b2 : FitsSigned w64 b.y1 = search rules in
    let b3 : FitsSigned w64 b.x2 = search rules in
    let b4 : FitsSigned w64 b.y2 = search rules in
    let xl : FitsSigned w64 x.low = search rules in
    let xh : FitsSigned w64 x.high = search rules in
    let yl : FitsSigned w64 y.low = search rules in
    let yh : FitsSigned w64 y.high = search rules in
    let r1 : FitsSigned w64 c.plus.result = search rules in
    let r2 : FitsSigned w64 c.plus-2.result = search rules in
    let r3 : FitsSigned w64 c.plus-3.result = search rules in
    let r4 : FitsSigned w64 c.plus-4.result = search rules in
    let h1 : c.plus.result ≡ b.x1 +ℤ x.low = simp to_z-of_z at c.plus.ensures in
    let h2 : c.plus-2.result ≡ b.y1 +ℤ y.low = simp to_z-of_z at c.plus-2.ensures in
    let h3 : c.plus-3.result ≡ b.x2 +ℤ x.high = simp to_z-of_z at c.plus-3.ensures in
    let h4 : c.plus-4.result ≡ b.y2 +ℤ y.high = simp to_z-of_z at c.plus-4.ensures in
    let r : Bounds = record { x1 = c.plus.result; y1 = c.plus-2.result; x2 = c.plus-3.result; y2 = c.plus-4.result } in
    let h : IsSpread b x y r = record { left_is = h1; low_is = h2; right_is = h3; high_is = h4 } in
    simp to_z-of_z h
