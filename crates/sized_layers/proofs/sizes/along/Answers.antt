use Rattle.std.proofs.Common.{rules, w64}
use mir.Val.{SFits}
use Rattle.std.proofs.lemmas.Int.{to_z-of_z}
use Rattle.rect_sets.proofs.Moving.{near_rects}
use Rattle.sized_layers.proofs.Sizing.{sized_are, sized_along}
use Rattle.sized_layers.proofs.sizes.along.Goals as goal

pub sized_rects-requires-clause-near : goal.sized_rects-requires-clause-near
sized_rects-requires-clause-near c = rw c.rects.ensures.list (near_rects c.args.set.now c.rects.ensures.canonical c.requires.near)

pub canon-requires : goal.canon-requires
canon-requires c =
    let f : SFits w64 c.args.d = search rules in
    let e = simp to_z-of_z at c.in_ok-sides.ensures in
    rw (e, c.rects.ensures.list) (sized_are c.args.d c.args.set.now c.rects.ensures.sound)

pub returns : goal.returns
returns c =
    let f : SFits w64 c.args.d = search rules in
    let e = simp to_z-of_z at c.in_ok-sides.ensures in
    let h = rw (e, c.rects.ensures.list) at c.in_ok-sized.ensures in
    λ s. rw (h s) (sized_along c.args.d c.args.set.now s c.rects.ensures.canonical)
