use Rattle.geo_base.specs.Motions.{moved_square}
use Rattle.cell_graph.specs.Linked.{motion_at}
use Rattle.cell_context.proofs.Visiting.{up_to}
use Rattle.zone_phase.specs.Pulls.{OnRects}
use Rattle.zone_phase.proofs.windows.windows.Goals as goal

pub loop-row-preserved : goal.loop-row-preserved
loop-row-preserved c = record {
  within = c.in_ok-push_row.ensures.within;
  covered = λ row column q lt less h. up_to (λ k. OnRects c.args.place.now c.push_row.new.out.items k column q) c.loop-row.row
      (λ k a. c.in_ok-push_row.ensures.kept (moved_square (motion_at c.args.place.now k column) q) (c.loop-row.invariant.covered k column q a less h))
      (c.in_ok-push_row.ensures.covered column q less h)
      row lt;
}
