use Rattle.std.proofs.Common.{take}
use Rattle.std.specs.List.{All}
use Rattle.geo_base.specs.Rects.{IsRect}
use Rattle.gate_search.specs.Gather.{AreMet}
use Rattle.gate_search.proofs.windows.around.Given as goal

abbrev pub invariant-loop-window : goal.invariant-loop-window
invariant-loop-window g l = record {
  met : AreMet (g.L.GateLayer.keeps l.layer) (take l.window-index l.windows) l.rects.items;
  right : All IsRect l.rects.items;
}
