-- The jobs of pairs of circuits.
use Rattle.std.specs.Prelude.{◌≡◌, ◌↔◌, ◌<◌, ℕ, true, List, length}
use Rattle.std.specs.List.Sorted.{IsStrictlyIncreasing}
use Rattle.plain_netlist.specs.Netlist.{Circuit, Netlist, IsCircuit}
use Rattle.composed_laws.specs.Answered.{is_called}
use Rattle.job_graph.specs.Graph.{Waits, has, inputs_of}

-- the jobs are the pairs, each once, by their numbers; a pair waits for exactly the pairs that its
-- left circuit calls
pub record AreCalledJobs (left : Netlist) (graph : List (List ℕ)) : Type 0 where
  pub jobs : length graph ≡ length left.circuits
  pub waits : (pair input : ℕ) (c : Circuit) → IsCircuit left pair c
      → Waits graph pair input ↔ (is_called c input ≡ true)

-- the pairs that a circuit calls, ascending
pub record AreCalled (c : Circuit) (called : List ℕ) : Type 0 where
  pub rising : IsStrictlyIncreasing called
  pub all : (pair : ℕ) → has pair called ≡ is_called c pair

-- those of the first n circuits
pub record AreCalledBelow (left : Netlist) (n : ℕ) (graph : List (List ℕ)) : Type 0 where
  pub count : length graph ≡ n
  pub each : (k : ℕ) (c : Circuit) → k < n → IsCircuit left k c → AreCalled c (inputs_of graph k)
