-- Where the slots of each job are, and which edges lead to its dependents.
use Rattle.std.specs.Prelude.{◌≡◌, ◌+◌, ◌<◌, ◌≤◌, ℕ, if◌then◌else◌, List, [], ◌∷◌, map, length}
use Rattle.std.specs.Prelude.{get_or, slice_index}
use Rattle.std.specs.Global.{Vec}
use Rattle.job_graph.specs.Graph.{inputs_of, AreInputs, has}
use Rattle.job_board.specs.declared.layout.Edge.{Edge}
use Rattle.job_board.specs.declared.layout.Layout.{Layout}
use Rattle.job_board.specs.Rule.{dependents}
use Rattle.job_board.specs.Slots.{first, own_slot, place, edge_slot}

-- the edges from a job
abbrev pub edges_at : List (Vec Edge) → ℕ → List Edge
edges_at edges job = get_or (map (λ v. v.items) edges) job []

-- the edge from one job to another
abbrev pub edge_to : List (List ℕ) → ℕ → ℕ → Edge
edge_to g from to = record { to = to; slot = edge_slot g from to }

-- the edges from a job to its dependents, ascending
abbrev pub edges_of : List (List ℕ) → ℕ → List Edge
edges_of g from = map (edge_to g from) (inputs_of (dependents g) from)

-- the edge to a job with these inputs and this first slot from one that may be an input
abbrev pub new_edge : List ℕ → ℕ → ℕ → ℕ → List Edge
new_edge inputs job first from =
    if has from inputs then record { to = job; slot = first + place from inputs } ∷ [] else []

-- the layout is that of the graph
pub record IsLayout (g : List (List ℕ)) (x : Layout) : Type 0 where
  pub sound : AreInputs g
  pub graph : x.graph ≡ g
  pub edge_count : length x.edges.items ≡ length g
  pub own_count : length x.owns.items ≡ length g
  pub edges : (job : ℕ) → job < length g → edges_at x.edges.items job ≡ edges_of g job
  pub owns : (job : ℕ) → job < length g → slice_index x.owns.items job ≡ own_slot g job
  pub slots : x.slots ≡ first g (length g)
  pub most : (job : ℕ) → job < length g → length (inputs_of g job) ≤ x.most
