use Rattle.std.proofs.Common.{◌≡◌}
use Rattle.cell_graph.specs.Sides.{Widens, AmongFirst}
use Rattle.cell_graph.proofs.extents.with_texts.Given as goal

abbrev pub invariant-loop-text : goal.invariant-loop-text
invariant-loop-text l = Widens l.fn.bounds (AmongFirst (λ t p. t.at ≡ p) l.texts l.text-index) l.all
