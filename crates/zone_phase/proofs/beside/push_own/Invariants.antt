use Rattle.std.proofs.Common.{take}
use Rattle.std.specs.List.{All}
use Rattle.geo_base.specs.Rects.{IsRect}
use Rattle.cell_graph.specs.Linked.{cell_at, own_of}
use Rattle.zone_phase.specs.Pulls.{Adds, OnRectsIn}
use Rattle.zone_phase.proofs.beside.push_own.Given as goal

abbrev pub invariant-loop-window : goal.invariant-loop-window
invariant-loop-window l = record {
  rects : All IsRect l.out.items;
  exact : Adds l.place l.frame.grown (OnRectsIn (take l.window-index l.windows) l.place (own_of (cell_at l.frame.design.now l.parent) l.frame.key)) l.fn.out.items l.out.items;
}
