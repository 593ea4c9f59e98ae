use Rattle.std.proofs.Common.{ℕ, ◌<◌}
use Rattle.std.specs.List.{All}
use Rattle.geo_base.specs.declared.shapes.Square.{Square}
use Rattle.cell_context.specs.Visits.{IsElementVisit, IsMet, IsFound}
use Rattle.cell_context.proofs.arrays.array_visits.Given as goal

abbrev pub invariant-loop-row : goal.invariant-loop-row
invariant-loop-row l = record {
  each : All (IsElementVisit l.place l.hull l.window) l.out.items;
  found : (row column : ℕ) (q : Square) → row < l.row → row < l.place.rows → column < l.place.columns → IsMet l.place l.hull l.window row column q → IsFound l.place row column q l.out.items;
}

abbrev pub invariant-loop-column : goal.invariant-loop-column
invariant-loop-column l = record {
  each : All (IsElementVisit l.place l.hull l.window) l.out.items;
  found : (row column : ℕ) (q : Square) → row < l.row → row < l.place.rows → column < l.place.columns → IsMet l.place l.hull l.window row column q → IsFound l.place row column q l.out.items;
  here : (column : ℕ) (q : Square) → column < l.column → column < l.place.columns → IsMet l.place l.hull l.window l.row column q → IsFound l.place l.row column q l.out.items;
}
