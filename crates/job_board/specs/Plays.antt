-- What each step tells its caller.
use Rattle.std.specs.Prelude.{◌≡◌, ◌≢◌, ℕ, suc, ◌+◌, ◌*◌, ◌/◌, ◌%◌, ◌^◌, ◌<◌, ◌≤◌, Bool, true, ◌||◌}
use Rattle.std.specs.Prelude.{◌==◌, List, ◌∷◌, ◌++◌, drop, length, Option, Some, None}
use Rattle.atomic_table.specs.Table.{Me, Step, rest}
use Rattle.job_board.specs.declared.view.View.{View}
use Rattle.job_board.specs.declared.view.Work.TheVariants.{Resting, Working}
use Rattle.atomic_table.specs.Seated.{TableId}
use Rattle.job_board.specs.declared.view.Plan.{Plan}
use Rattle.job_graph.specs.Graph.{inputs_of}
use Rattle.job_board.specs.Slots.{taken, AreRight}
use Rattle.job_board.specs.Rule.{graph_of, graph_in, dependents_in, IsNumber}
use Rattle.job_board.specs.Views.{all_parts}

module _ {T K : Type 0} where
  -- this number was read in this word
  abbrev pub noting : View T K → ℕ → ℕ → View T K
  noting v i n = record {
    plan = v.plan;
    claims = v.claims;
    work = v.work;
    ready = v.ready;
    full = v.full;
    stopped = v.stopped;
    seen_stop = v.seen_stop;
    last = (i, n);
    number = v.number;
    part = v.part;
  }

  -- the seat saw that the job awaits nothing
  abbrev pub readied : View T K → ℕ → View T K
  readied v j = record {
    plan = v.plan;
    claims = v.claims;
    work = v.work;
    ready = j ∷ v.ready;
    full = v.full;
    stopped = v.stopped;
    seen_stop = v.seen_stop;
    last = v.last;
    number = v.number;
    part = v.part;
  }

  -- the seat claimed the job, and its number is w
  abbrev pub claiming : View T K → ℕ → ℕ → View T K
  claiming v j w = record {
    plan = v.plan;
    claims = (j, w) ∷ v.claims;
    work = Working j 0;
    ready = v.ready;
    full = v.full;
    stopped = v.stopped;
    seen_stop = v.seen_stop;
    last = v.last;
    number = Some w;
    part = v.part;
  }

  -- the seat told q dependents of the job
  abbrev pub telling : View T K → ℕ → ℕ → View T K
  telling v j q = record {
    plan = v.plan;
    claims = v.claims;
    work = Working j q;
    ready = v.ready;
    full = v.full;
    stopped = v.stopped;
    seen_stop = v.seen_stop;
    last = v.last;
    number = v.number;
    part = v.part;
  }

  -- the seat is at no job
  abbrev pub resting : View T K → View T K
  resting v = record {
    plan = v.plan;
    claims = v.claims;
    work = Resting;
    ready = v.ready;
    full = v.full;
    stopped = v.stopped;
    seen_stop = v.seen_stop;
    last = v.last;
    number = v.number;
    part = v.part;
  }

  -- the seat saw whether all jobs are finished, and whether the board is stopped
  abbrev pub counting : View T K → Bool → Bool → View T K
  counting v all stop = record {
    plan = v.plan;
    claims = v.claims;
    work = v.work;
    ready = v.ready;
    full = v.full || all;
    stopped = v.stopped;
    seen_stop = v.seen_stop || stop;
    last = v.last;
    number = v.number;
    part = v.part;
  }

  -- the seat stopped the board
  abbrev pub stopping : View T K → View T K
  stopping v = record {
    plan = v.plan;
    claims = v.claims;
    work = v.work;
    ready = v.ready;
    full = v.full;
    stopped = true;
    seen_stop = v.seen_stop;
    last = v.last;
    number = v.number;
    part = v.part;
  }

  module _ {S : Type 0} where
    abbrev pub right_in : (Plan T K → ℕ → S → Type 0) → Option (Plan T K) → ℕ → S → Type 0
    right_in right None = λ _ _. ⊥
    right_in right (Some q) = right q

    -- a load of the count of j that reads n
    abbrev pub Looks : Step S → Me S (View T K) → ℕ → Me S (View T K) → Type 0
    Looks st m n m' =
        (j : ℕ) → st.word ≡ 2 * j + 2
        → (n ≡ 0 → m' ≡ (noting (readied m.0 j) st.word n, m.1))
        × (n ≢ 0 → m' ≡ (noting m.0 st.word n, m.1))

    module _ (empty : S) (right : Plan T K → ℕ → S → Type 0) where
      -- the job is the seat's, under its number, and the seat holds its slots, with a right note of
      -- each input
      abbrev pub Took : ℕ → ℕ → ℕ → Me S (View T K) → Me S (View T K) → Type 0
      Took i j n m m' =
          let g = graph_in m.0.plan in let d = dependents_in m.0.plan in
          (w : ℕ) × (ys : List S) × AreRight (right_in right m.0.plan) (inputs_of g j) ys
          × (m' ≡ (noting (claiming m.0 j w) i n, taken empty g d j ys ++ m.1))
          × IsNumber m.0.number w

      abbrev pub Claimed : ℕ → ℕ → ℕ → Me S (View T K) → Me S (View T K) → Type 0
      Claimed i j n m m' = (n ≡ 0 → Took i j n m m') × (n ≢ 0 → m' ≡ (noting m.0 i n, m.1))

      -- a fetch_or of the claim of j that reads n
      abbrev pub Claims : Step S → Me S (View T K) → ℕ → Me S (View T K) → Type 0
      Claims st m n m' = (j : ℕ) → st.word ≡ 2 * j + 1 → Claimed st.word j n m m'

    -- a fetch_sub of the count of the next dependent
    abbrev pub Tells : Step S → Me S (View T K) → ℕ → Me S (View T K) → Type 0
    Tells st m n m' = (j q : ℕ) → m.0.work ≡ Working j q → m' ≡ (telling m.0 j (suc q), rest m.1)

    -- a fetch_add of the done word
    abbrev pub Ends : Step S → Me S (View T K) → ℕ → Me S (View T K) → Type 0
    Ends st m n m' =
        (j q : ℕ) → m.0.work ≡ Working j q
        → m' ≡ (resting m.0, drop (suc (length (inputs_of (graph_in m.0.plan) j))) m.1)

    -- a load of the done word that reads n: it tells what was noted before, and where the seat is
    -- the only one, then a stop is its own
    abbrev pub Counts : Step S → Me S (View T K) → ℕ → Me S (View T K) → Type 0
    Counts st m n m' =
        let jobs = length (graph_in m.0.plan) in
        (m' ≡ (noting (counting m.0 (n / 2 == jobs) (n % 2 == 1)) st.word n, m.1))
        × (n / 2 ≤ jobs) × (m.0.full ≡ true → n / 2 ≡ jobs)
        × (m.0.stopped ≡ true → n % 2 ≡ 1) × (m.0.seen_stop ≡ true → n % 2 ≡ 1)
        × (m.0.part ≡ all_parts → n % 2 ≡ 1 → m.0.stopped ≡ true)

    -- a fetch_or of the stop bit
    abbrev pub Stops : Step S → Me S (View T K) → ℕ → Me S (View T K) → Type 0
    Stops st m n m' = m' ≡ (stopping m.0, m.1)

  -- the table of this plan has its words, and the seat is one of it
  pub record IsFor (z : TableId) (p : Plan T K) (y : TableId) (v : View T K) : Type 0 where
    pub seat : y ≡ z
    pub plan : v.plan ≡ Some p
    pub words : z.words ≡ 2 * length (graph_of p) + 1
    pub small : length (graph_of p) < 2 ^ 32
