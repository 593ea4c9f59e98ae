-- The jobs of a phase in which no cell waits for another.
use Rattle.std.specs.Prelude.{◌≡◌, ℕ, List, length}
use Rattle.job_graph.specs.Graph.{Waits}
use Rattle.cell_graph.specs.Linked.{Linked}

-- the jobs go through the design's order, and wait for none
pub record AreFreeJobs (d : Linked) (graph : List (List ℕ)) : Type 0 where
  pub jobs : length graph ≡ length d.order
  pub waits : (job input : ℕ) → Waits graph job input → ⊥
