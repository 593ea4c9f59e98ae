use Rattle.std.proofs.Common.{take}
use Rattle.std.specs.List.{All}
use Rattle.geo_base.specs.Rects.{IsRect}
use Rattle.zone_phase.specs.Pulls.{Adds, OnRects}
use Rattle.zone_phase.proofs.beside.push_onto.Given as goal

abbrev pub invariant-loop-rect : goal.invariant-loop-rect
invariant-loop-rect l = record {
  rects : All IsRect l.out.items;
  exact : Adds l.place l.hull (OnRects l.place (take l.rect-index l.rects)) l.fn.out.items l.out.items;
}
