use Rattle.std.proofs.Common.{◌^◌, ◌∙◌, List, sym, subst, slice_index_or}
use Rattle.std.specs.List.{All}
use Rattle.geo_base.specs.declared.shapes.Rect.{Rect}
use Rattle.tile_index.specs.Windows.{ArePositions}
use Rattle.cell_graph.specs.Linked.{IsRectWithin, cell_at, own_of}
use Rattle.cell_context.proofs.Collecting.{no_rect}
use Rattle.cell_context.proofs.Near.{pieces_of}
use Rattle.zone_phase.specs.Pulls.{Adds, OnRects}
use Rattle.zone_phase.proofs.Joining.{among_more, pieces_within}
use Rattle.zone_phase.proofs.beside.push_own.Goals as goal

pub push_pieces-requires-clause-near : goal.push_pieces-requires-clause-near
push_pieces-requires-clause-near c =
    let window = slice_index_or c.args.windows.now c.loop-window.window-index no_rect in
    subst (λ (l : List Rect). ArePositions l window c.deref.result.now) (sym (c.rects-own.ensures.list ∙ c.own.ensures)) (rw c.deref.ensures.value c.in_ok-near.ensures)

pub push_onto-requires-clause-within : goal.push_onto-requires-clause-within
push_onto-requires-clause-within c =
    subst (λ (l : List Rect). All (IsRectWithin (2 ^ 39)) l) (sym c.deref-in-loop-window.ensures.value) (pieces_within _ c.push_pieces.new.out.items (c.requires.within c.loop-window.window-index no_rect c.loop-window-test.true) c.in_ok-push_pieces.ensures.pieces)

pub loop-window-preserved : goal.loop-window-preserved
loop-window-preserved c =
    let window = slice_index_or c.args.windows.now c.loop-window.window-index no_rect in
    record {
      rects = c.in_ok-push_onto.ensures.rects;
      exact = among_more c.args.place.now c.args.frame.now.grown (own_of (cell_at c.args.frame.now.design.now c.args.parent) c.args.frame.now.key) c.args.windows.now c.loop-window.window-index no_rect c.push_pieces.new.out.items c.args.out.now.items c.loop-window.out.items c.push_onto.new.out.items c.loop-window-test.true
          (λ q. pieces_of c.push_pieces.new.out.items c.new-pieces.result.items c.rects-own.result.now (own_of (cell_at c.args.frame.now.design.now c.args.parent) c.args.frame.now.key) window q c.new-pieces.ensures.items (c.rects-own.ensures.list ∙ c.own.ensures) (c.in_ok-push_pieces.ensures.covers q))
          c.loop-window.invariant.exact
          (subst (λ (l : List Rect). Adds c.args.place.now c.args.frame.now.grown (OnRects c.args.place.now l) c.loop-window.out.items c.push_onto.new.out.items) c.deref-in-loop-window.ensures.value c.in_ok-push_onto.ensures.exact);
    }
