use Rattle.std.proofs.Common.{refl}
use Rattle.geo_base.specs.Rects.{has}
use Rattle.rect_sets.specs.Rects.{covers}
use Rattle.cell_context.proofs.Near.{own_inside, chosen_next, chosen_all}
use Rattle.cell_context.proofs.flats.push_pieces.Goals as goal

pub loop-i-preserved : goal.loop-i-preserved
loop-i-preserved c = record {
  pieces = c.in_ok-push_piece.ensures.pieces;
  covers = λ q. chosen_next (covers c.loop-i.out.items q) (covers c.push_piece.new.out.items q) c.args.rects.now c.args.near.now c.loop-i.i-index q (covers c.args.out.now.items q) (has c.args.window.now q) _ c.loop-i-test.true (c.loop-i.invariant.covers q) refl (c.in_ok-push_piece.ensures.covers q);
}

pub returns-clause-covers : goal.returns-clause-covers
returns-clause-covers c = λ q. chosen_all c.args.rects.now c.args.window.now c.args.near.now c.loop-i.i-index q (covers c.args.out.now.items q) (covers c.loop-i.out.items q) c.requires.near c.loop-i-test.false (c.loop-i.invariant.covers q)

pub bounds-rects-i : goal.bounds-rects-i
bounds-rects-i c = own_inside c.args.rects.now c.args.window.now c.args.near.now c.loop-i.i-index c.requires.near c.loop-i-test.true
