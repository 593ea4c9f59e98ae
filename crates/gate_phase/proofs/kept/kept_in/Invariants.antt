use Rattle.std.proofs.Common.{take}
use Rattle.std.specs.List.{All}
use Rattle.flat_layout.specs.Layers.{Formula, IsKept}
use Rattle.cell_graph.specs.Linked.{plain}
use Rattle.gate_search.specs.Gather.{AreMet}
use Rattle.gate_phase.specs.Kept.{HasLocals, IsNearPiece}
use Rattle.gate_phase.proofs.kept.kept_in.Given as goal

abbrev pub invariant-loop-window : goal.invariant-loop-window
invariant-loop-window l = record {
  near : All IsNearPiece l.out.items;
  met : (x : Formula) → HasLocals (plain l.design) l.layers l.name x → AreMet (IsKept (plain l.design) l.cell x) (take l.window-index l.windows) l.out.items;
}
