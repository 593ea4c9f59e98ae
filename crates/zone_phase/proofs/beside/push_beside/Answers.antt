use Rattle.std.proofs.Common.{◌^◌, List, sym, subst}
use Rattle.std.specs.List.{All}
use Rattle.geo_base.specs.declared.shapes.Rect.{Rect}
use Rattle.cell_graph.specs.Linked.{IsRectWithin}
use Rattle.cell_context.proofs.Collecting.{no_rect}
use Rattle.zone_phase.specs.Pulls.{Adds, OnRects}
use Rattle.zone_phase.proofs.Joining.{beside_more, pieces_within}
use Rattle.zone_phase.proofs.beside.push_beside.Goals as goal

pub push_onto-requires-clause-within : goal.push_onto-requires-clause-within
push_onto-requires-clause-within c =
    subst (λ (l : List Rect). All (IsRectWithin (2 ^ 39)) l) (sym c.deref.ensures.value) (pieces_within _ c.in_ok-rects.rects.items (c.requires.within c.loop-window.window-index no_rect c.loop-window-test.true) c.in_ok-rects.ensures.pieces)

pub loop-window-preserved : goal.loop-window-preserved
loop-window-preserved c = record {
  rects = c.in_ok-push_onto.ensures.rects;
  exact = beside_more c.args.frame.now.design.now c.args.parent c.args.index c.args.frame.now.key c.args.place.now c.args.frame.now.grown c.args.windows.now c.loop-window.window-index no_rect c.in_ok-rects.rects.items c.args.out.now.items c.loop-window.out.items c.push_onto.new.out.items c.loop-window-test.true c.in_ok-rects.ensures.exact c.loop-window.invariant.exact
      (subst (λ (l : List Rect). Adds c.args.place.now c.args.frame.now.grown (OnRects c.args.place.now l) c.loop-window.out.items c.push_onto.new.out.items) c.deref.ensures.value c.in_ok-push_onto.ensures.exact);
}
