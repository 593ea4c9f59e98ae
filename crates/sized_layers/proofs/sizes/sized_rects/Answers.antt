use Rattle.std.proofs.Common.{rules, arith, ◌≡◌, pos, [], w64, take}
use mir.Val.{SFits}
use Rattle.std.proofs.lemmas.Int.{to_z-of_z}
use Rattle.geo_base.specs.declared.shapes.Rect.{Rect}
use Rattle.rect_sets.proofs.Dividing.{loop_more, loop_all}
use Rattle.sized_layers.specs.Sizes.{sized_rects}
use Rattle.sized_layers.proofs.Sizing.{sized_append}
use Rattle.sized_layers.proofs.sizes.sized_rects.Goals as goal

pub loop-rect-preserved : goal.loop-rect-preserved
loop-rect-preserved c =
    let f : SFits w64 c.args.d = search rules in
    let zero : Rect = record { x1 = pos 0; y1 = pos 0; x2 = pos 0; y2 = pos 0 } in
    let inv : c.loop-rect.out.items ≡ sized_rects c.args.d (take c.loop-rect.rect-index c.args.rects.now) = simp to_z-of_z at c.loop-rect.invariant in
    let e = simp to_z-of_z at c.in_ok-push_sized.ensures in
    rw e (simp to_z-of_z (loop_more (sized_rects c.args.d) (sized_append c.args.d) c.args.rects.now c.loop-rect.rect-index zero [] c.loop-rect.out.items (omega arith) inv))

pub returns : goal.returns
returns c =
    let f : SFits w64 c.args.d = search rules in
    let inv : c.loop-rect.out.items ≡ sized_rects c.args.d (take c.loop-rect.rect-index c.args.rects.now) = simp to_z-of_z at c.loop-rect.invariant in
    loop_all (sized_rects c.args.d) c.args.rects.now c.loop-rect.rect-index [] c.loop-rect.out.items (omega arith) inv
