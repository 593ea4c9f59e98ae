use Rattle.std.proofs.Common.{◌≡◌, ◌⊎◌, Some, rules, FitsSigned, w64}
use Rattle.std.proofs.lemmas.Int.{to_z-of_z}
use Rattle.cell_graph.specs.Sides.{Widens, IsCornerPoint, low_corner, high_corner}
use Rattle.cell_graph.specs.Arrays.{AreOriginsOf, ArrayPoint}
use Rattle.cell_graph.proofs.Turned.{spread_least, from_corners}
use Rattle.cell_graph.proofs.arrays.with_array.Goals as goal

pub returns : goal.returns
returns c =
    let p = c.args.place.now in
    let o = c.in-Some.origins in
    let all = c.spread-all.result in
    let a1 : FitsSigned w64 all.x1 = search rules in
    let a2 : FitsSigned w64 all.y1 = search rules in
    let a3 : FitsSigned w64 all.x2 = search rules in
    let a4 : FitsSigned w64 all.y2 = search rules in
    let origins : AreOriginsOf p o = c.in-Some.ensures {u = tt} in
    let corners : Widens c.args.bounds (λ q. (q ≡ low_corner all) ⊎ (q ≡ high_corner all)) (Some c.with_corners.result) = simp to_z-of_z at c.with_corners.ensures in
    from_corners c.args.bounds (ArrayPoint p (IsCornerPoint c.args.inner)) all c.with_corners.result
    (spread_least p (IsCornerPoint c.args.inner) c.turned_bounds.result all o.x o.y origins.x origins.y c.turned_bounds.ensures.least c.spread-all.ensures) corners
