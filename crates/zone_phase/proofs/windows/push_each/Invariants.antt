use Rattle.std.proofs.Common.{◌≡◌, ◌^◌, ℕ, ◌<◌, true}
use Rattle.std.specs.List.{All}
use Rattle.geo_base.specs.Rects.{has}
use Rattle.geo_base.specs.declared.shapes.Square.{Square}
use Rattle.rect_sets.specs.Rects.{covers}
use Rattle.cell_graph.specs.Linked.{IsRectWithin}
use Rattle.zone_phase.specs.Pulls.{OnRects}
use Rattle.zone_phase.proofs.windows.push_each.Given as goal

abbrev pub invariant-loop-column : goal.invariant-loop-column
invariant-loop-column l = record {
  within : All (IsRectWithin (2 ^ 39)) l.out.items;
  covered : (column : ℕ) (q : Square) → column < l.column → has l.hull q ≡ true → OnRects l.place l.out.items l.row column q;
  kept : (s : Square) → covers l.fn.out.items s ≡ true → covers l.out.items s ≡ true;
}
