use Rattle.std.proofs.Common.{rules, arith, ◌≡◌, ◌++◌, pos, w32, get_or, take}
use mir.Val.{SFits}
use Rattle.std.proofs.lemmas.Int.{to_z-of_z}
use Rattle.geo_base.specs.declared.shapes.Rect.{Rect}
use Rattle.rect_sets.specs.Combined.{left_of, right_of, edges_of}
use Rattle.rect_sets.proofs.Combining.{edges_more}
use Rattle.rect_sets.proofs.booleans.push_edges.Goals as goal

pub loop-rect-preserved : goal.loop-rect-preserved
loop-rect-preserved c =
    let f : SFits w32 c.args.first = search rules in
    let g : SFits w32 c.args.second = search rules in
    let zero : Rect = record { x1 = pos 0; y1 = pos 0; x2 = pos 0; y2 = pos 0 } in
    let l : c.left_of.result ≡ left_of c.args.first c.args.second (get_or c.args.rects.now c.loop-rect.rect-index zero) = simp to_z-of_z at c.left_of.ensures in
    let r : c.right_of.result ≡ right_of c.args.first c.args.second (get_or c.args.rects.now c.loop-rect.rect-index zero) = simp to_z-of_z at c.right_of.ensures in
    let inv : c.loop-rect.out.items ≡ c.args.out.now.items ++ edges_of c.args.first c.args.second (take c.loop-rect.rect-index c.args.rects.now) = simp to_z-of_z at c.loop-rect.invariant in
    rw (c.in_ok-push-2.ensures.items, c.in_ok-push.ensures.items, l, r) (simp to_z-of_z (edges_more c.args.first c.args.second c.args.rects.now c.loop-rect.rect-index zero c.args.out.now.items c.loop-rect.out.items (omega arith) inv))
