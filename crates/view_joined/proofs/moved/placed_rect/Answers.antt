use Rattle.std.proofs.Common.{arith}
use Rattle.std.proofs.lemmas.Int.{ints, clamps}
use Rattle.geo_base.proofs.Spans.{same_rect}
use Rattle.view_joined.proofs.moved.placed_rect.Goals as goal

pub returns : goal.returns
returns c =
    let xl = c.requires.point.x.low in let xh = c.requires.point.x.high in
    let yl = c.requires.point.y.low in let yh = c.requires.point.y.high in
    let al = c.requires.rect.x1.low in let ah = c.requires.rect.x1.high in
    let bl = c.requires.rect.y1.low in let bh = c.requires.rect.y1.high in
    let cl = c.requires.rect.x2.low in let ch = c.requires.rect.x2.high in
    let dl = c.requires.rect.y2.low in let dh = c.requires.rect.y2.high in
    same_rect _ _ (omega (arith, ints, clamps)) (omega (arith, ints, clamps)) (omega (arith, ints, clamps)) (omega (arith, ints, clamps))
