use Rattle.std.proofs.Common.{◌≡◌, ℕ, ◌<◌, Some, slice_get}
use Rattle.std.specs.List.{All}
use Rattle.cell_context.specs.Over.{IsPiece}
use Rattle.cell_graph.specs.declared.cells.Place.{Place}
use Rattle.cell_graph.specs.Linked.{cell_at, places_at}
use Rattle.gate_phase.specs.Seeding.{BringsLone, BringsOpen}
use Rattle.gate_phase.proofs.seeds.push_references.Given as goal

abbrev pub invariant-loop-i : goal.invariant-loop-i
invariant-loop-i l = record {
  pieces : All (IsPiece l.plane) l.out.items;
  brings : (k : ℕ) (p : Place) → k < l.i → slice_get (places_at (cell_at l.at.site.design.now l.at.site.cell)) k ≡ Some p → BringsOpen l.by l.at.site.design.now l.at.site.zones.now l.at.number p l.plane l.out.items × BringsLone l.by l.at.site.design.now l.at.site.zones.now l.at.number p l.plane l.out.items;
}
