use Rattle.std.proofs.Common.{◌≤◌, ◌^◌, ◌+◌, pos, arith}
use Rattle.geo_base.specs.declared.shapes.Rect.{Rect}
use Rattle.gate_shapes.specs.Sets.{area}
use Rattle.gate_shapes.proofs.Areas.{area_more, area_up, on_err}
use Rattle.gate_shapes.proofs.area.area.Goals as goal

pub loop-rect-preserved : goal.loop-rect-preserved
loop-rect-preserved c =
    let zero : Rect = record { x1 = pos 0; y1 = pos 0; x2 = pos 0; y2 = pos 0 } in
    let more = area_more c.args.rects.now c.loop-rect.rect-index zero (omega arith) in
    let one = c.area_of.ensures in
    let two = c.in_ok-sum.ensures.sum in
    omega (arith, more, one, two, c.loop-rect.invariant)

pub returns-in_err-sum-clause-err : goal.returns-in_err-sum-clause-err
returns-in_err-sum-clause-err c =
    let zero : Rect = record { x1 = pos 0; y1 = pos 0; x2 = pos 0; y2 = pos 0 } in
    let more = area_more c.args.rects.now c.loop-rect.rect-index zero (omega arith) in
    let up = area_up c.args.rects.now (c.loop-rect.rect-index + 1) in
    let one = c.area_of.ensures in
    let e = c.in_err-sum.ensures.err in
    let over : 2 ^ 128 ≤ area c.args.rects.now = omega (arith, more, up, one, e, c.loop-rect.invariant) in
    on_err c.from_residual.result (2 ^ 128 ≤ area c.args.rects.now) over
