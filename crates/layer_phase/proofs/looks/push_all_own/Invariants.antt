use Rattle.std.proofs.Common.{ℕ}
use Rattle.std.specs.List.{All}
use Rattle.geo_base.specs.Rects.{IsRect}
use Rattle.cell_graph.specs.Linked.{cell_at, hull_of}
use Rattle.layer_phase.specs.Looks.{AreHeld, BringsOwn}
use Rattle.cell_context.specs.Placed.{Grows}
use Rattle.layer_phase.proofs.looks.push_all_own.Given as goal

abbrev pub invariant-loop-rule : goal.invariant-loop-rule
invariant-loop-rule l = record {
  rects : All IsRect l.out.items;
  held : (n : ℕ) → AreHeld n (hull_of (cell_at l.design l.cell)) l.fn.out.items → AreHeld n (hull_of (cell_at l.design l.cell)) l.out.items;
  grows : Grows l.fn.out.items l.out.items;
  brings : BringsOwn l.design l.cell l.names l.rule-index l.out.items;
}
