use Rattle.std.proofs.Common.{◌↔◌}
use Rattle.std.specs.List.{All}
use Rattle.geo_base.specs.declared.shapes.Square.{Square}
use Rattle.cell_context.specs.Over.{IsPiece}
use Rattle.cell_graph.specs.Linked.{cell_at, places_at}
use Rattle.flat_layout.specs.Layers.{IsLocal}
use Rattle.gate_phase.specs.Site.{layout_at}
use Rattle.gate_shapes.specs.Sets.{in_set}
use Rattle.select_phase.specs.Found.{rest_in}
use Rattle.select_phase.specs.Selections.{meant_at}
use Rattle.select_phase.proofs.Lifting.{LiftedTo}
use Rattle.select_phase.proofs.candidates.candidates.Given as goal

abbrev pub invariant-loop-place : goal.invariant-loop-place
invariant-loop-place l = record {
  pieces : All (IsPiece l.plane) l.out.items;
  local : (q : Square) → in_set l.initial.out.items q ↔ IsLocal (layout_at l.site) l.site.cell (meant_at l.site l.selection).region q;
  lifted : LiftedTo (places_at (cell_at l.site.design.now l.site.cell)) (rest_in l.below) l.initial.out.items l.place-index l.out.items;
}
