use Rattle.std.proofs.Common.{rules, w64, ◌≤ℤ◌, arith}
use mir.Val.{SFits, to_z, of_z}
use Rattle.std.proofs.lemmas.Int.{ints, to_z-of_z}
use Rattle.rect_sets.specs.Actives.{edge_at}
use Rattle.rect_sets.proofs.Placing.{begin_none, begin_more}
use Rattle.rect_sets.proofs.active.insert_all.Goals as goal

pub loop-at-init : goal.loop-at-init
loop-at-init c =
    let f : SFits w64 c.args.y = search rules in
    let e = rw (to_z-of_z w64 c.args.y f) at c.leave_out_ended.ensures in
    rw (to_z-of_z w64 c.args.y f) (begin_none c.args.y c.args.active.now.items c.args.edges.now c.args.at.now c.leave_out_ended.new.active.items c.requires e)

pub loop-at-preserved : goal.loop-at-preserved
loop-at-preserved c =
    let f : SFits w64 c.args.y = search rules in
    let g : SFits w64 (edge_at c.args.edges.now c.loop-at.at).y1 = search rules in
    let le : (edge_at c.args.edges.now c.loop-at.at).y1 ≤ℤ to_z w64 (of_z w64 c.args.y) = omega (arith, ints, c.if-edges-at.true) in
    begin_more (to_z w64 (of_z w64 c.args.y)) c.args.active.now.items c.args.edges.now c.args.at.now c.loop-at.active.items c.loop-at.at c.insert_edge.new.active.items c.loop-at.invariant (omega arith) le c.in_ok-insert_edge.ensures
