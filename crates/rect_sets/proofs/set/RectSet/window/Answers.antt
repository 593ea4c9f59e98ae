use Rattle.rect_sets.proofs.Moving.{window_covers, meeting_rects}
use Rattle.std.proofs.Common.{◌∙◌}
use Rattle.rect_sets.proofs.set.RectSet.window.Goals as goal

pub combine_rects-requires-clause-a : goal.combine_rects-requires-clause-a
combine_rects-requires-clause-a c = rw (c.deref.ensures.value, c.in_ok-near.ensures, c.rects.ensures.list) (meeting_rects c.args.w c.args.self.now c.rects.ensures.sound)

pub returns : goal.returns
returns c =
    let h = rw (c.deref.ensures.value, c.in_ok-near.ensures, c.rects.ensures.list) at c.in_ok-set.ensures in
    λ s. h s ∙ window_covers c.args.w c.args.self.now s
