use Rattle.std.proofs.Common.{take}
use Rattle.std.specs.List.{All}
use Rattle.geo_base.specs.Rects.{IsRect}
use Rattle.zone_phase.specs.Pulls.{Adds, BesideIn}
use Rattle.zone_phase.proofs.beside.push_beside.Given as goal

abbrev pub invariant-loop-window : goal.invariant-loop-window
invariant-loop-window l = record {
  rects : All IsRect l.out.items;
  exact : Adds l.place l.frame.grown (BesideIn (take l.window-index l.windows) l.frame.design.now l.parent l.index l.frame.key l.place) l.fn.out.items l.out.items;
}
