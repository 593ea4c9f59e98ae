use Rattle.std.proofs.Common.{◌^◌}
use Rattle.std.proofs.lemmas.List.Elements.{All-push}
use Rattle.geo_base.specs.Motions.{moved_square}
use Rattle.cell_graph.specs.Linked.{IsRectWithin, motion_at}
use Rattle.cell_context.proofs.Visiting.{up_to}
use Rattle.zone_phase.specs.Pulls.{OnRects}
use Rattle.zone_phase.proofs.Pulling.{stays, comes}
use Rattle.zone_phase.proofs.Covering.{own_window}
use Rattle.zone_phase.proofs.windows.push_each.Goals as goal

pub loop-column-preserved : goal.loop-column-preserved
loop-column-preserved c =
    let e = c.in_ok-push.ensures.items in
    let r = c.element_rect-rect.result in
    record {
      within = rw e (All-push (IsRectWithin (2 ^ 39)) c.loop-column.out.items r c.loop-column.invariant.within c.element_rect-rect.ensures.near);
      covered = λ column q lt h. up_to (λ k. OnRects c.args.place.now c.push.new.self.items c.args.row k q) c.loop-column.column
          (λ k less. stays c.loop-column.out.items c.push.new.self.items r (moved_square (motion_at c.args.place.now c.args.row k) q) e (c.loop-column.invariant.covered k q less h))
          (comes c.loop-column.out.items c.push.new.self.items r (moved_square (motion_at c.args.place.now c.args.row c.loop-column.column) q) e (own_window c.args.place.now c.args.row c.loop-column.column c.args.hull.now r q c.requires.hull.some c.element_rect-rect.ensures.exact h))
          column lt;
      kept = λ s h. stays c.loop-column.out.items c.push.new.self.items r s e (c.loop-column.invariant.kept s h);
    }
