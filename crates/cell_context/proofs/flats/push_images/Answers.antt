use Rattle.geo_base.specs.Rects.{has}
use Rattle.geo_base.specs.Motions.{moved_square}
use Rattle.rect_sets.specs.Rects.{covers}
use Rattle.cell_context.proofs.Collecting.{covers_next, no_rect}
use Rattle.cell_context.proofs.flats.push_images.Goals as goal

pub loop-rect-preserved : goal.loop-rect-preserved
loop-rect-preserved c = record {
  pieces = c.in_ok-push_piece.ensures.pieces;
  covers = λ s. covers_next (covers c.loop-rect.out.items (moved_square c.args.motion.now s)) _ c.args.rects.now c.loop-rect.rect-index no_rect s (covers c.args.out.now.items (moved_square c.args.motion.now s)) (has c.args.window.now (moved_square c.args.motion.now s)) (has c.rect.result (moved_square c.args.motion.now s)) c.loop-rect-test.true (c.loop-rect.invariant.covers s) (c.rect.ensures.squares s) (c.in_ok-push_piece.ensures.covers (moved_square c.args.motion.now s));
}
