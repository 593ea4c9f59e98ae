use Rattle.std.proofs.Common.{◌≡◌, ◌<◌, ◌+◌, ◌*◌, ℕ, length, slice_index}
use Rattle.job_graph.specs.Graph.{inputs_of}
use Rattle.job_board.proofs.open.first_words.Given as goal

abbrev pub invariant-loop-job : goal.invariant-loop-job
invariant-loop-job l = (length l.words.items ≡ 2 * l.job + 1) × (slice_index l.words.items 0 ≡ 0)
    × ((j : ℕ) → j < l.job → (slice_index l.words.items (2 * j + 1) ≡ 0) × (slice_index l.words.items (2 * j + 2) ≡ length (inputs_of l.graph j)))
