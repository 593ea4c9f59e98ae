use Rattle.std.proofs.Common.{◌≡◌, Option, Some, None, refl, sym, subst, rules, FitsSigned, w64, pos}
use Rattle.std.proofs.lemmas.Int.{to_z-of_z}
use Rattle.geo_base.specs.Motions.{turned, moved_point}
use Rattle.geo_base.specs.declared.shapes.Point.{Point}
use Rattle.cell_graph.specs.declared.bounds.Bounds.{Bounds}
use Rattle.cell_graph.specs.Sides.{Widens, IsCornerPoint, low_corner, high_corner}
use Rattle.cell_graph.specs.Arrays.{TurnedPoint}
use Rattle.cell_graph.proofs.Widening.{widens_with}
use Rattle.cell_graph.proofs.Turned.{turned_nothing, turned_corners, turned_all_near, unmoved}
use Rattle.cell_graph.proofs.arrays.turned_bounds.Goals as goal

pub returns-in_default-clause-least : goal.returns-in_default-clause-least
returns-in_default-clause-least c =
    let o : Point = record { x = pos 0; y = pos 0 } in
    let h = turned_nothing c.args.turn o (Some c.with_point.result) refl refl (widens_with None o c.with_point.result c.with_point.ensures) in
    subst (λ (i : Option Bounds). Widens None (TurnedPoint c.args.turn (IsCornerPoint i)) (Some c.with_point.result)) (sym c.in_default.is) h

pub returns-clause-least : goal.returns-clause-least
returns-clause-least c =
    let o : Point = record { x = pos 0; y = pos 0 } in
    let b = c.in-Some.b in
    let b1 : FitsSigned w64 b.x1 = search rules in
    let b2 : FitsSigned w64 b.y1 = search rules in
    let b3 : FitsSigned w64 b.x2 = search rules in
    let b4 : FitsSigned w64 b.y2 = search rules in
    let at_low : c.point-low.result ≡ moved_point (record { turn = c.args.turn; dx = pos 0; dy = pos 0 }) (low_corner b) = simp to_z-of_z at c.point-low.ensures.exact in
    let at_high : c.point-high.result ≡ moved_point (record { turn = c.args.turn; dx = pos 0; dy = pos 0 }) (high_corner b) = simp to_z-of_z at c.point-high.ensures.exact in
    let low : c.point-low.result ≡ turned c.args.turn (low_corner b) = unmoved c.args.turn (low_corner b) c.point-low.result at_low in
    let high : c.point-high.result ≡ turned c.args.turn (high_corner b) = unmoved c.args.turn (high_corner b) c.point-high.result at_high in
    let h = turned_corners c.args.turn o c.point-low.result c.point-high.result b (Some c.with_point-first.result) (Some c.with_corners.result) refl refl low high
    (widens_with None o c.with_point-first.result c.with_point-first.ensures) c.with_corners.ensures in
    subst (λ (i : Option Bounds). Widens None (TurnedPoint c.args.turn (IsCornerPoint i)) (Some c.with_corners.result)) (sym c.in-Some.is) h

pub returns-clause-near : goal.returns-clause-near
returns-clause-near c = turned_all_near c.args.turn c.args.inner c.with_corners.result c.requires (returns-clause-least c)
