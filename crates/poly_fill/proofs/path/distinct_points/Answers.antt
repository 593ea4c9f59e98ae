use Rattle.std.proofs.Common.{◌≡◌, ◌++◌, ◌∷◌, [], ◌<◌, ◌-◌, ℕ, List, length, take, drop, get_or, pos, arith}
use Rattle.geo_base.specs.declared.shapes.Point.{Point}
use Rattle.poly_fill.specs.Fills.{distinct}
use Rattle.poly_fill.proofs.Walks.{kept_more, kept_same}
use Rattle.poly_fill.proofs.path.distinct_points.Goals as goal
use Rattle.poly_fill.proofs.path.distinct_points.Goals.{then-ne+in_ok-push-2, else-ne}

pub loop-point-preserved : goal.loop-point-preserved
loop-point-preserved c =
    let points = c.args.points.now in
    let zero : Point = record { x = pos 0; y = pos 0 } in
    let rest : List Point = take (length points - 1) (drop 1 points) in
    let i : ℕ = c.loop-point.point-index in
    let lt : i < length rest = omega arith in
    elim c.if-ne.branch [
      | then-ne+in_ok-push-2 w ↦
          let added : c.if-ne.kept.items ≡ c.loop-point.kept.items ++ get_or rest i zero ∷ [] = let k = w.kept-is in let p = w.in_ok-push-2.ensures.items in cc in
          kept_more c.loop-point.kept.items c.if-ne.kept.items (distinct points) c.loop-point.last c.if-ne.last rest i zero lt w.if-ne.ensures added w.last-is c.loop-point.invariant
      | else-ne w ↦
          let added : c.if-ne.kept.items ≡ c.loop-point.kept.items = let k = w.kept-is in cc in
          kept_same c.loop-point.kept.items c.if-ne.kept.items (distinct points) c.loop-point.last c.if-ne.last rest i zero lt w.if-ne.ensures added w.last-is c.loop-point.invariant
    ]
