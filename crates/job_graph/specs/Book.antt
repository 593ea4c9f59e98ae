-- What a run by levels writes into its book, a state of the machine of jobs.
use Rattle.std.specs.Prelude.{◌≡◌, ◌<◌, ℕ, true, false, ◌||◌, if◌then◌else◌, List, [], length, Some}
use Rattle.std.specs.Prelude.{None}
use Rattle.job_graph.specs.Graph.{inputs_of, Waits, AreAscending, has}
use Rattle.job_graph.specs.Machine.{Machine, put}

-- all edges to the job arrived
abbrev pub arrived : Machine → ℕ → Machine
arrived m job =
    record { awaits = put m.awaits job []; claimed = m.claimed; published = m.published }

-- these jobs were claimed by worker 0, after all edges to them arrived
abbrev pub with_claimed : Machine → List ℕ → Machine
with_claimed m jobs = record {
  awaits = λ job. if has job jobs then [] else m.awaits job;
  claimed = λ job. if has job jobs then Some 0 else m.claimed job;
  published = m.published;
}

-- these jobs were published
abbrev pub with_published : Machine → List ℕ → Machine
with_published m jobs = record {
  awaits = m.awaits;
  claimed = m.claimed;
  published = λ job. has job jobs || m.published job;
}

-- the job is one of the graph, nobody claimed it, and all of its inputs were published
pub record MayClaim (graph : List (List ℕ)) (m : Machine) (job : ℕ) : Type 0 where
  pub within : job < length graph
  pub edges : m.awaits job ≡ inputs_of graph job
  pub free : m.claimed job ≡ None
  pub inputs : (input : ℕ) → Waits graph job input → m.published input ≡ true

-- the job is one of the graph, claimed by worker 0 and not published
pub record MayPublish (graph : List (List ℕ)) (m : Machine) (job : ℕ) : Type 0 where
  pub within : job < length graph
  pub mine : m.claimed job ≡ Some 0
  pub unpublished : m.published job ≡ false

-- the jobs of a level: in ascending order, and each may take this step
pub record AreFree (may : ℕ → Type 0) (jobs : List ℕ) : Type 0 where
  pub high : ℕ
  pub ascend : AreAscending 0 jobs high
  pub each : (job : ℕ) → has job jobs ≡ true → may job
