use Rattle.std.proofs.Common.{◌≡◌, ℕ, ◌<◌, Some, slice_get}
use Rattle.std.specs.List.{All}
use Rattle.cell_context.specs.Over.{IsPiece}
use Rattle.cell_graph.specs.declared.cells.Place.{Place}
use Rattle.cell_graph.specs.Linked.{cell_at, places_at}
use Rattle.layer_phase.specs.Looks.{AreExposedLists, BringsExposed}
use Rattle.layer_phase.proofs.looks.push_references.Given as goal

abbrev pub invariant-loop-place : goal.invariant-loop-place
invariant-loop-place l = record {
  lists : AreExposedLists l.view.reach l.view.design.now l.view.zones.now l.view.names.now l.memo.lists.items;
  pieces : All (IsPiece l.window) l.out.items;
  brings : (k : ℕ) (p : Place) → k < l.place-index → slice_get (places_at (cell_at l.view.design.now l.cell)) k ≡ Some p → BringsExposed l.view.reach l.view.design.now l.view.zones.now l.view.names.now p l.window l.out.items;
}
