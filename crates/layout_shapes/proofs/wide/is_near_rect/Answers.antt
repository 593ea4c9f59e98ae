use Rattle.std.proofs.Common.{w64, rules}
use Rattle.std.proofs.lemmas.Int.{to_z-of_z}
use mir.Val.{SFits}
use Rattle.layout_shapes.proofs.Outside.{then_low}
use Rattle.layout_shapes.proofs.wide.is_near_rect.Goals as goal

pub returns-then-low : goal.returns-then-low
returns-then-low c =
    let r = c.args.rect.now in
    let fx : SFits w64 r.x1 = search rules in let fy : SFits w64 r.y1 = search rules in
    let gx : SFits w64 r.x2 = search rules in let gy : SFits w64 r.y2 = search rules in
    let low = simp to_z-of_z at c.are_near-low.ensures in let high = simp to_z-of_z at c.are_near-high.ensures in
    then_low r c.are_near-low.result c.are_near-high.result low c.if-low.true high
