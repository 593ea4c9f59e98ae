use Rattle.std.proofs.Common.{rules, w64}
use mir.Val.{SFits}
use Rattle.std.proofs.lemmas.Int.{to_z-of_z}
use Rattle.rect_sets.proofs.Merging.{take_ended, take_active, take_starting}
use Rattle.rect_sets.proofs.active.take_one.Goals as goal

pub returns-in-Ended : goal.returns-in-Ended
returns-in-Ended c =
    let fy : SFits w64 c.args.y = search rules in
    let t = simp to_z-of_z at c.in-Ended.ensures in
    take_ended c.args.y c.args.active.now c.args.edges.now c.args.i.now c.args.j.now c.args.out.now.items c.requires t.0 t.1

pub returns-in_ok-push-in-Active : goal.returns-in_ok-push-in-Active
returns-in_ok-push-in-Active c =
    let fy : SFits w64 c.args.y = search rules in
    let t = simp to_z-of_z at c.in-Active.ensures in
    rw c.in_ok-push-in-Active.ensures.items (take_active c.args.y c.args.active.now c.args.edges.now c.args.i.now c.args.j.now c.args.out.now.items c.requires t.0 t.1 t.2)

pub returns-in_ok-push-in-Starting : goal.returns-in_ok-push-in-Starting
returns-in_ok-push-in-Starting c =
    let fy : SFits w64 c.args.y = search rules in
    let t = simp to_z-of_z at c.in-Starting.ensures in
    rw c.in_ok-push-in-Starting.ensures.items (take_starting c.args.y c.args.active.now c.args.edges.now c.args.i.now c.args.j.now c.args.out.now.items c.requires t.0 t.1 t.2)
