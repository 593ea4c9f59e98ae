use Rattle.std.proofs.Common.{◌≡◌, ◌^◌, ℕ, ◌<◌, true}
use Rattle.std.specs.List.{All}
use Rattle.geo_base.specs.Rects.{has}
use Rattle.geo_base.specs.declared.shapes.Square.{Square}
use Rattle.cell_graph.specs.Linked.{IsRectWithin}
use Rattle.zone_phase.specs.Pulls.{OnRects}
use Rattle.zone_phase.proofs.windows.windows.Given as goal

abbrev pub invariant-loop-row : goal.invariant-loop-row
invariant-loop-row l = record {
  within : All (IsRectWithin (2 ^ 39)) l.out.items;
  covered : (row column : ℕ) (q : Square) → row < l.row → column < l.place.columns → has l.hull q ≡ true → OnRects l.place l.out.items row column q;
}
