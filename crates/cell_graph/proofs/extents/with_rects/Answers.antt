use Rattle.std.proofs.Common.{◌≡◌, ◌⊎◌, Some, get_or, rules, FitsSigned, w64, pos}
use Rattle.std.proofs.lemmas.Int.{to_z-of_z}
use Rattle.std.proofs.lemmas.Option.{slice_get-get_or}
use Rattle.geo_base.specs.declared.shapes.Rect.{Rect}
use Rattle.cell_graph.specs.Drafts.{IsCorner}
use Rattle.cell_graph.specs.Sides.{Widens}
use Rattle.cell_graph.proofs.Widening.{no_item, next_item, all_items}
use Rattle.cell_graph.proofs.Extending.{rect_corners, low_of, high_of}
use Rattle.cell_graph.proofs.extents.with_rects.Goals as goal

pub loop-r-init : goal.loop-r-init
loop-r-init c = no_item IsCorner c.args.rects.now c.args.bounds

pub loop-r-preserved : goal.loop-r-preserved
loop-r-preserved c =
    let items = c.args.rects.now in
    let n = c.loop-r.r-index in
    let d : Rect = record { x1 = pos 0; y1 = pos 0; x2 = pos 0; y2 = pos 0 } in
    let r = get_or items n d in
    let f1 : FitsSigned w64 r.x1 = search rules in
    let f2 : FitsSigned w64 r.y1 = search rules in
    let f3 : FitsSigned w64 r.x2 = search rules in
    let f4 : FitsSigned w64 r.y2 = search rules in
    let h : Widens c.loop-r.all (λ p. (p ≡ low_of r) ⊎ (p ≡ high_of r)) (Some c.with_corners.result) = simp to_z-of_z at c.with_corners.ensures in
    next_item IsCorner items n r c.args.bounds c.loop-r.all (Some c.with_corners.result) (slice_get-get_or items n d c.loop-r-test.true) c.loop-r.invariant (rect_corners c.loop-r.all r c.with_corners.result h)

pub returns : goal.returns
returns c = all_items IsCorner c.args.rects.now c.loop-r.r-index c.args.bounds c.loop-r.all c.loop-r-test.false c.loop-r.invariant
