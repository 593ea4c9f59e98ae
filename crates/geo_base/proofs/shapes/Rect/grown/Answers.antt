use Rattle.std.proofs.Common.{arith}
use Rattle.std.proofs.lemmas.Int.{ints}
use Rattle.geo_base.proofs.Spans.{same_rect}
use Rattle.geo_base.proofs.shapes.Rect.grown.Goals as goal

pub returns : goal.returns
returns c =
    let n = c.requires in
    let a = c.from.ensures in
    let b = c.from-2.ensures in
    let d = c.from-3.ensures in
    let e = c.from-4.ensures in
    same_rect _ _ (omega (arith, ints)) (omega (arith, ints)) (omega (arith, ints)) (omega (arith, ints))
