use Rattle.rect_sets.proofs.Moving.{near_rects, canonical_shift, covers_shifted}
use Rattle.rect_sets.proofs.set.RectSet.moved.Goals as goal

pub shifted-requires-clause-rects : goal.shifted-requires-clause-rects
shifted-requires-clause-rects c = rw c.rects.ensures.list (near_rects c.args.self.now c.rects.ensures.canonical c.requires.near)

pub invariant_of-result : goal.invariant_of-result
invariant_of-result c = rw (c.in_ok-rects-in-R0.ensures, c.rects.ensures.list) (canonical_shift c.args.m.now.dx c.args.m.now.dy c.args.self.now c.rects.ensures.canonical)

pub images-requires : goal.images-requires
images-requires c = record {
  rects = rw c.rects-in_default.ensures.list c.rects-in_default.ensures.sound;
  near = rw c.rects-in_default.ensures.list (near_rects c.args.self.now c.rects-in_default.ensures.canonical c.requires.near);
  motion = c.requires.motion;
}

pub returns-in_ok-rects-in-R0 : goal.returns-in_ok-rects-in-R0
returns-in_ok-rects-in-R0 c =
    rw (c.in_ok-rects-in-R0.ensures, c.rects.ensures.list, c.in-R0.is) (λ s. covers_shifted c.args.m.now.dx c.args.m.now.dy c.args.self.now s.x s.y)
