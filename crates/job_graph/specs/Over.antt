-- What the graph of a phase is: its jobs are cells (or pairs), and it waits as the cells need each
-- other.
use Rattle.std.specs.Prelude.{◌≡◌, ◌↔◌, ℕ, ◌<◌, ◌+◌, true, List, map, length, slice_index}
use Rattle.plain_netlist.specs.Lists.{AreApart}
use Rattle.job_graph.specs.Graph.{inputs_of, Waits, AreInputs, AreAscending, has}

-- the jobs are these cells, each once, and the job of a cell waits exactly for those of the cells
-- that this one needs
pub record IsGraphOver (needs : ℕ → ℕ → Type 0) (cells : List ℕ) (graph : List (List ℕ)) : Type 0
  where
    pub jobs : length graph ≡ length cells
    pub once : AreApart cells
    pub inputs :
        (job input : ℕ) → job < length cells → input < length cells
        → Waits graph job input ↔ needs (slice_index cells job) (slice_index cells input)

-- a job names each of its inputs once
abbrev pub OnceLaw : Type 0
OnceLaw = (graph : List (List ℕ)) → AreInputs graph → (job : ℕ) → AreApart (inputs_of graph job)

-- a job waits for what stands at some place of its inputs
abbrev pub PlaceLaw : Type 0
PlaceLaw =
    (graph : List (List ℕ)) (job input : ℕ)
    → Waits graph job input
    ↔ ((k : ℕ) × (k < length (inputs_of graph job)) × (slice_index (inputs_of graph job) k ≡ input))

-- numbers of which each is above the one before, and all are below a bound, ascend below it
abbrev pub AscendLaw : Type 0
AscendLaw =
    (xs : List ℕ) (high : ℕ)
    → ((k : ℕ) → k + 1 < length xs → slice_index xs k < slice_index xs (k + 1))
    → ((k : ℕ) → k < length xs → slice_index xs k < high)
    → AreAscending 0 xs high

-- where the inputs of each job are the places of the cells that its cell needs, the graph is over
-- the cells
abbrev pub OverLaw : Type 0
OverLaw =
    (needed : ℕ → List ℕ) (place : ℕ → ℕ) (cells : List ℕ) (graph : List (List ℕ))
    → length graph ≡ length cells
    → ((k : ℕ) → k < length cells → place (slice_index cells k) ≡ k)
    → ((job cell : ℕ) → job < length cells → has cell (needed (slice_index cells job)) ≡ true
    → (k : ℕ) × (k < length cells) × (slice_index cells k ≡ cell))
    → ((job input : ℕ) → job < length cells
    → Waits graph job input
    ↔ (has input (map place (needed (slice_index cells job))) ≡ true))
    → IsGraphOver (λ cell other. has other (needed cell) ≡ true) cells graph
