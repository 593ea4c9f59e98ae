use Rattle.std.proofs.Common.{◌≡◌, ◌<◌, ℕ, [], get_or, length}
use Rattle.net_phase.proofs.elements.all_elements.Given as goal
use Rattle.net_phase.specs.Elements.{AreElements, element_lists}

abbrev pub invariant-loop-cell : goal.invariant-loop-cell
invariant-loop-cell l = record {
  long : length l.all.items ≡ l.cell;
  each : (cell : ℕ) → cell < l.cell → AreElements l.design cell (get_or (element_lists l.all.items) cell []);
}
