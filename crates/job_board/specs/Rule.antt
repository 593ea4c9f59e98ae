-- The rule of the board's table: its words, views and slots show a state of the machine of jobs.
-- Word 0 is twice the number of finished jobs, and one more once the board is stopped. Word
-- 2 j + 1 is 1 once the job j is claimed, and word 2 j + 2 is the number of inputs that j awaits.
-- A job's stage is 0 before it is claimed, q + 1 while it is worked and q of its dependents were
-- told, and 2 more than it has dependents once it is finished.
use Rattle.std.specs.Prelude.{◌≡◌, ◌⊎◌, ℕ, zero, suc, ◌+◌, ◌*◌, ◌<◌, ◌≤◌, Bool, true, false, not, ◌||◌}
use Rattle.std.specs.Prelude.{◌==◌, ltb, filter, map, List, [], ◌∷◌, length, slice_index}
use Rattle.std.specs.Prelude.{Option, Some, None, is_some}
use mathlib.Core.Option.{some}
use lib.ListN.{get_elem?}
use Rattle.std.specs.List.{range_with_len}
use Rattle.atomic_table.specs.Table.{State}
use Rattle.job_graph.specs.Graph.{inputs_of, AreInputs, has}
use Rattle.job_graph.specs.Machine.{Machine, start, run}
use Rattle.job_graph.specs.declared.machine.Event.{Event}
use Rattle.job_board.specs.Slots.{SlotsOk}
use Rattle.job_board.specs.Views.{AreParts}
use Rattle.job_board.specs.declared.view.Plan.{Plan}
use Rattle.job_board.specs.declared.view.View.{View}
use Rattle.job_board.specs.declared.view.Work.{Work}
use Rattle.job_board.specs.declared.view.Work.TheVariants.{Resting, Working}

-- for each job the jobs that wait for it, ascending
abbrev pub dependents : List (List ℕ) → List (List ℕ)
dependents g =
    let jobs = range_with_len 0 (length g) in
    map (λ j. filter (λ k. has j (inputs_of g k)) jobs) jobs

-- each edge stands once among its source's dependents
pub record AreDependents (g d : List (List ℕ)) : Type 0 where
  pub inputs : AreInputs g
  pub count : length d ≡ length g
  pub edge :
      (j q : ℕ) → q < length (inputs_of d j)
      → (slice_index (inputs_of d j) q < length g)
      × (has j (inputs_of g (slice_index (inputs_of d j) q)) ≡ true)
  pub apart :
      (j q r : ℕ) → q < length (inputs_of d j) → r < length (inputs_of d j)
      → slice_index (inputs_of d j) q ≡ slice_index (inputs_of d j) r → q ≡ r
  pub all :
      (j k : ℕ) → has j (inputs_of g k) ≡ true
      → (q : ℕ) × (q < length (inputs_of d j)) × (slice_index (inputs_of d j) q ≡ k)

-- what the words and views show: the machine's state, how far each job is, the seat that holds it
-- (by its number and one more), and whether the board is stopped
pub record Standing : Type 0 where
  pub machine : Machine
  pub stage : ℕ → ℕ
  pub holder : ℕ → ℕ
  pub stopped : Bool

abbrev pub one_if : Bool → ℕ
one_if true = 1
one_if false = 0

-- how many of the numbers below n
abbrev pub how_many : (ℕ → Bool) → ℕ → ℕ
how_many f zero = 0
how_many f (suc n) = how_many f n + one_if (f n)

-- the stage of a finished job
abbrev pub last_stage : List (List ℕ) → ℕ → ℕ
last_stage d j = length (inputs_of d j) + 2

-- one job at a stage with a holder: its two words, and the edges to its dependents
pub record JobOk (d : List (List ℕ)) (words : List ℕ) (m : Machine) (j st ho : ℕ) : Type 0 where
  pub count : slice_index words (2 * j + 2) ≡ length (m.awaits j)
  pub claim : slice_index words (2 * j + 1) ≡ one_if (not (st == 0))
  pub claimed : is_some (m.claimed j) ≡ not (st == 0)
  pub held : (ho == 0) ≡ (st == 0)
  pub published : m.published j ≡ ltb 1 st
  pub edges :
      (q : ℕ) → q < length (inputs_of d j)
      → has j (m.awaits (slice_index (inputs_of d j) q)) ≡ ltb st (q + 2)
  pub bound : st ≤ last_stage d j

-- whether the job stands among these claims
abbrev pub has_job : ℕ → List (ℕ × ℕ) → Bool
has_job j [] = false
has_job j (c ∷ cs) = (j == c.0) || has_job j cs

-- no job is claimed twice
abbrev pub IsOnce : List (ℕ × ℕ) → Type 0
IsOnce [] = Unit {0}
IsOnce (c ∷ cs) = (has_job c.0 cs ≡ false) × IsOnce cs

-- each claim names the seat that made it
abbrev pub AreMade : Machine → List (ℕ × ℕ) → Type 0
AreMade m [] = Unit {0}
AreMade m (c ∷ cs) = (m.claimed c.0 ≡ Some c.1) × AreMade m cs

-- no edge to these jobs is open
abbrev pub AreReady : Machine → ℕ → List ℕ → Type 0
AreReady m n [] = Unit {0}
AreReady m n (j ∷ js) = (j < n) × (m.awaits j ≡ []) × AreReady m n js

-- the seat holds the job that it is at, and told as many of its dependents as it says
abbrev pub WorksAt : List (List ℕ) → Standing → ℕ → Work → Type 0
WorksAt d x id Resting = Unit {0}
WorksAt d x id (Working j p) =
    (j < length d) × (x.holder j ≡ suc id) × (x.stage j ≡ suc p) × (p ≤ length (inputs_of d j))

-- the seat is at this job
abbrev pub IsAt : Work → ℕ → Type 0
IsAt Resting k = ⊥
IsAt (Working j p) k = j ≡ k

-- the seat's number, where it knows it
abbrev pub IsNumber : Option ℕ → ℕ → Type 0
IsNumber None id = Unit {0}
IsNumber (Some n) id = n ≡ id

module _ {T K : Type 0} where
  abbrev pub graph_of : Plan T K → List (List ℕ)
  graph_of p = p.graph.value

  abbrev pub dependents_of : Plan T K → List (List ℕ)
  dependents_of p = dependents (graph_of p)

  -- what the seat knows of the plan is this plan, or nothing once it is spent
  abbrev pub IsPlan : Option (Plan T K) → Plan T K → Type 0
  IsPlan None p = Unit {0}
  IsPlan (Some q) p = q ≡ p

  abbrev pub graph_in : Option (Plan T K) → List (List ℕ)
  graph_in None = []
  graph_in (Some q) = graph_of q

  abbrev pub dependents_in : Option (Plan T K) → List (List ℕ)
  dependents_in None = []
  dependents_in (Some q) = dependents_of q

  -- what one seat knows is so
  pub record SeatOk (p : Plan T K) (x : Standing) (id : ℕ) (v : View T K) : Type 0 where
    pub plan : IsPlan v.plan p
    pub claims : (j : ℕ) → has_job j v.claims ≡ (x.holder j == suc id)
    pub once : IsOnce v.claims
    pub made : AreMade x.machine v.claims
    pub work : WorksAt (dependents_of p) x id v.work
    pub ready : AreReady x.machine (length (graph_of p)) v.ready
    pub full :
        v.full ≡ true → (j : ℕ) → j < length (graph_of p)
        → x.stage j ≡ last_stage (dependents_of p) j
    pub stopped : v.stopped ≡ true → x.stopped ≡ true
    pub seen_stop : v.seen_stop ≡ true → x.stopped ≡ true
    pub number : IsNumber v.number id
    pub done :
        (j : ℕ) → x.holder j ≡ suc id
        → (x.stage j ≡ last_stage (dependents_of p) j) ⊎ IsAt v.work j

  -- the words and views show the standing
  pub record Shows (g d : List (List ℕ)) (p : Plan T K) (x : Standing) (words : List ℕ)
      (views : List (View T K)) : Type 0 where
    pub wide : length words ≡ 2 * length g + 1
    pub done :
        slice_index words 0
        ≡ 2 * how_many (λ j. x.stage j == last_stage d j) (length g) + one_if x.stopped
    pub jobs : (j : ℕ) → j < length g → JobOk d words x.machine j (x.stage j) (x.holder j)
    pub unheld : (j : ℕ) → length g ≤ j → x.holder j ≡ 0
    pub holders : (j : ℕ) → x.holder j ≤ length views
    pub seats : (id : ℕ) (v : View T K) → get_elem? views id ≡ some v → SeatOk p x id v
    pub stop :
        x.stopped ≡ true
        → (id : ℕ) × (v : View T K) × (get_elem? views id ≡ some v) × (v.stopped ≡ true)

  -- the part of the rule that speaks of no slot: events lead the machine to the state that is shown
  pub record Keeps {S : Type 0} (p : Plan T K) (x : Standing) (s : State S (View T K)) :
      Type 0 where
    pub fits : AreDependents (graph_of p) (dependents_of p)
    pub reached : (es : List Event) × (x.machine ≡ run (graph_of p) (start (graph_of p)) es)
    pub shows : Shows (graph_of p) (dependents_of p) p x s.words s.views
    pub parts : AreParts s.views

  -- the rule: its words, views and slots show a state of the machine
  pub record Holds {S : Type 0} (empty : S) (right : ℕ → S → Type 0) (p : Plan T K)
      (s : State S (View T K)) : Type 0 where
    pub standing : Standing
    pub keeps : Keeps p standing s
    pub slots :
        SlotsOk empty right (graph_of p) (dependents_of p) standing.machine.awaits standing.stage
        s.homes
