-- The machine of jobs: which events change it, how, and what holds after every list of events.
use Rattle.std.specs.Prelude.{◌≡◌, ◌+◌, ℕ, ◌≤◌, Bool, true, false, not, ◌&&◌, ◌==◌, if◌then◌else◌}
use Rattle.std.specs.Prelude.{ltb, List, [], ◌∷◌, length, get_or, Option, Some, None, is_some}
use Rattle.job_graph.specs.Graph.{lists, inputs_of, Waits, AreInputs, has}
use Rattle.job_graph.specs.declared.machine.Event.{Event}
use Rattle.job_graph.specs.declared.machine.Event.TheVariants.{Claim, Publish, Arrive}
use Rattle.job_graph.specs.declared.machine.Step.{Step}
use Rattle.job_graph.specs.declared.machine.Step.TheVariants.{Done, NotReady, Taken, Idle}
use Rattle.job_graph.specs.declared.machine.JobState.{JobState}

-- without the first x
abbrev pub less : ℕ → List ℕ → List ℕ
less x [] = []
less x (y ∷ ys) = if x == y then ys else (y ∷ less x ys)

-- the function changed at one place
abbrev pub put : {A : Type 0} → (ℕ → A) → ℕ → A → ℕ → A
put f i a j = if j == i then a else f j

-- of each job: the inputs whose edge has not arrived, the worker that claimed it, whether it is
-- published
pub record Machine : Type 0 where
  pub awaits : ℕ → List ℕ
  pub claimed : ℕ → Option ℕ
  pub published : ℕ → Bool

-- nothing was done yet
abbrev pub start : List (List ℕ) → Machine
start graph = record { awaits = inputs_of graph; claimed = λ _. None; published = λ _. false }

abbrev pub is_by : ℕ → Option ℕ → Bool
is_by w None = false
is_by w (Some v) = w == v

-- the answer to a claim, by the open edges to the job and who claimed it
abbrev pub claim_answer : List ℕ → Option ℕ → Step
claim_answer [] None = Done
claim_answer [] (Some w) = Taken w
claim_answer (x ∷ xs) c = NotReady (length (x ∷ xs))

abbrev pub answer : List (List ℕ) → Machine → Event → Step
answer g m (Claim w j) = if ltb j (length g) then claim_answer (m.awaits j) (m.claimed j) else Idle
answer g m (Publish w j) = if is_by w (m.claimed j) && not (m.published j) then Done else Idle
answer g m (Arrive i j) = if m.published i && has i (m.awaits j) then Done else Idle

-- what an event changes
abbrev pub after : Machine → Event → Machine
after m (Claim w j) =
    record { awaits = m.awaits; claimed = put m.claimed j (Some w); published = m.published }
after m (Publish w j) =
    record { awaits = m.awaits; claimed = m.claimed; published = put m.published j true }
after m (Arrive i j) =
    let rest = less i (m.awaits j) in
    record { awaits = put m.awaits j rest; claimed = m.claimed; published = m.published }

-- all answers but Done change nothing
abbrev pub moved : Step → Machine → Event → Machine
moved Done m e = after m e
moved (NotReady n) m e = m
moved (Taken w) m e = m
moved Idle m e = m

abbrev pub next : List (List ℕ) → Machine → Event → Machine
next g m e = moved (answer g m e) m e

-- the machine after these events
abbrev pub run : List (List ℕ) → Machine → List Event → Machine
run g m [] = m
run g m (e ∷ es) = run g (next g m e) es

-- what holds of every state that events lead to
pub record IsValid (g : List (List ℕ)) (m : Machine) : Type 0 where
  pub edge : (i j : ℕ) → has i (m.awaits j) ≡ true → Waits g j i
  pub came : (i j : ℕ) → Waits g j i → has i (m.awaits j) ≡ false → m.published i ≡ true
  pub owned : (j : ℕ) → m.published j ≡ true → is_some (m.claimed j) ≡ true
  pub ready : (j : ℕ) → is_some (m.claimed j) ≡ true → m.awaits j ≡ []

abbrev pub is_done : Step → ℕ
is_done Done = 1
is_done (NotReady n) = 0
is_done (Taken w) = 0
is_done Idle = 0

-- whether the event claims this job
abbrev pub is_claim : ℕ → Event → Bool
is_claim k (Claim w j) = j == k
is_claim k (Publish w j) = false
is_claim k (Arrive i j) = false

-- whether the event is an arrival at this edge
abbrev pub is_arrival : ℕ → ℕ → Event → Bool
is_arrival a b (Claim w j) = false
is_arrival a b (Publish w j) = false
is_arrival a b (Arrive i j) = (i == a) && (j == b)

-- how many events of a kind are Done
abbrev pub times : List (List ℕ) → (Event → Bool) → Machine → List Event → ℕ
times g kind m [] = 0
times g kind m (e ∷ es) =
    (if kind e then is_done (answer g m e) else 0) + times g kind (next g m e) es

-- of a graph and any list of events
pub record MachineLaw : Type 0 where
  -- a job is claimed at most once
  pub once : (g : List (List ℕ)) (es : List Event) (j : ℕ) → times g (is_claim j) (start g) es ≤ 1
  -- a claim that is Done finds all inputs published
  pub inputs :
      (g : List (List ℕ)) (es : List Event) (w j i : ℕ)
      → answer g (run g (start g) es) (Claim w j) ≡ Done
      → Waits g j i → (run g (start g) es).published i ≡ true
  -- a publication that is Done is that of the worker that claimed the job
  pub publisher :
      (g : List (List ℕ)) (es : List Event) (w j : ℕ)
      → answer g (run g (start g) es) (Publish w j) ≡ Done
      → (run g (start g) es).claimed j ≡ Some w
  -- an edge arrives at most once
  pub arrives_once :
      (g : List (List ℕ)) (es : List Event) (i j : ℕ) → AreInputs g
      → times g (is_arrival i j) (start g) es ≤ 1
  -- and after its publication
  pub after_publication :
      (g : List (List ℕ)) (es : List Event) (i j : ℕ)
      → answer g (run g (start g) es) (Arrive i j) ≡ Done
      → (run g (start g) es).published i ≡ true
  pub valid : (g : List (List ℕ)) (es : List Event) → IsValid g (run g (start g) es)

-- the machine that a state in lists is
abbrev pub machine_of : JobState → Machine
machine_of s = record {
  awaits = λ j. get_or (lists s.awaits.items) j [];
  claimed = λ j. get_or s.claimed.items j None;
  published = λ j. get_or s.published.items j false;
}

-- the state is one of this graph: events lead to it from the graph's start
pub record IsStateOf (g : List (List ℕ)) (s : JobState) : Type 0 where
  pub awaits : length s.awaits.items ≡ length g
  pub claimed : length s.claimed.items ≡ length g
  pub published : length s.published.items ≡ length g
  pub reached : (es : List Event) × (machine_of s ≡ run g (start g) es)
