use Rattle.std.proofs.Common.{◌≡◌, ℕ, ◌<◌, ◌++◌, length, map, Some}
use Rattle.once_cell.specs.Once.{cell_name}
use Rattle.job_graph.specs.Notes.{known_values, names_of}
use Rattle.job_graph.specs.Sharing.{IsFound}
use Rattle.job_graph.proofs.found.Found.into_results.Given as goal

abbrev pub invariant-loop-value : goal.invariant-loop-value
invariant-loop-value g l = record {
  same : l.fn.self ≡ map (λ v. Some v) (known_values l.notes.items) ++ l.value-iterator.rest.items;
  names : names_of l.notes.items ≡ map cell_name l.cells.items;
  left : (k : ℕ) → k < length l.value-iterator.rest.items → IsFound l.value-iterator.rest.items k;
}
