use Rattle.std.proofs.Common.{w64, rules}
use Rattle.std.proofs.lemmas.Int.{to_z-of_z}
use mir.Val.{SFits}
use Rattle.run_layout.proofs.Ranges.{then_up}
use Rattle.run_layout.proofs.far.has_room.Goals as goal

pub returns-then-across : goal.returns-then-across
returns-then-across c =
    let r = c.args.hull.now in
    let fx : SFits w64 r.x1 = search rules in let fy : SFits w64 r.y1 = search rules in
    let gx : SFits w64 r.x2 = search rules in let gy : SFits w64 r.y2 = search rules in
    let across = simp to_z-of_z at c.stays_near-across.ensures in let up = simp to_z-of_z at c.stays_near-up.ensures in
    then_up r c.args.reach c.stays_near-across.result c.stays_near-up.result across c.if-across.true up
