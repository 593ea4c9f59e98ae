use Rattle.std.proofs.Common.{rules, w64}
use mir.Val.{SFits}
use Rattle.std.proofs.lemmas.Int.{to_z-of_z}
use Rattle.rect_sets.proofs.Merging.{merge_none}
use Rattle.rect_sets.proofs.active.merge.Goals as goal

pub loop-more-init : goal.loop-more-init
loop-more-init c =
    let fy : SFits w64 c.args.y = search rules in
    rw (c.clear.ensures.items, to_z-of_z w64 c.args.y fy) (merge_none c.args.y c.args.active.now c.args.edges.now c.args.at.now c.requires)
