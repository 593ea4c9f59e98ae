-- What a seat must be at for the steps of a publication.
use Rattle.std.specs.Prelude.{◌≡◌, ℕ, ◌<◌, ◌+◌, ◌*◌, List, [], ◌∷◌, ◌++◌, map, length, slice_index}
use Rattle.atomic_table.specs.Table.{Me}
use Rattle.atomic_table.specs.Seated.{TableId}
use Rattle.atomic_table.specs.declared.shared.Seat.{Seat}
use Rattle.job_board.specs.Plays.{IsFor}
use Rattle.job_graph.specs.Graph.{inputs_of}
use Rattle.job_board.specs.declared.view.Plan.{Plan}
use Rattle.job_board.specs.declared.view.View.{View}
use Rattle.job_board.specs.declared.view.Work.TheVariants.{Working}
use Rattle.job_board.specs.Rule.{graph_of, dependents_of}
use Rattle.job_board.specs.Slots.{edge_slot, own_slot, held_by, taken, AreRight}

module _ {T K S : Type 0} where
  -- the next dependent is this one, and its slot in hand holds a right note
  pub record MayTell (right : Plan T K → ℕ → S → Type 0) (p : Plan T K) (me : Me S (View T K))
      (j q k : ℕ) : Type 0 where
    pub work : me.0.work ≡ Working j q
    pub more : q < length (inputs_of (dependents_of p) j)
    pub next : slice_index (inputs_of (dependents_of p) j) q ≡ k
    pub within : k < length (graph_of p)
    pub hand : (y : S) × (c : List (ℕ × S)) × (me.1 ≡ (edge_slot (graph_of p) j k, y) ∷ c)
        × right p j y

  -- all dependents were told, and the job's own slot holds a right note
  pub record MayEnd (empty : S) (right : Plan T K → ℕ → S → Type 0) (p : Plan T K)
      (me : Me S (View T K)) (j : ℕ) : Type 0 where
    pub work : me.0.work ≡ Working j (length (inputs_of (dependents_of p) j))
    pub hand : (y : S) × (c : List (ℕ × S)) × (me.1 ≡ held_by empty (graph_of p) j y ++ c)
        × right p j y

-- these slots, empty
abbrev pub waiting_slots : {S : Type 0} → S → List (List ℕ) → ℕ → List ℕ → List (ℕ × S)
waiting_slots empty g j ks = map (λ k. (edge_slot g j k, empty)) ks

-- what a claim left in hand: the slots of the job's inputs with right notes, those of its edges,
-- and its own
abbrev pub HasTaken : {T K S : Type 0} → S → (Plan T K → ℕ → S → Type 0) → Plan T K → ℕ
    → List (ℕ × S) → Type 0
HasTaken {S = S} empty right p j c = (ys : List S) × AreRight (right p) (inputs_of (graph_of p) j)
    ys × (c ≡ taken empty (graph_of p) (dependents_of p) j ys)

-- what the seat holds once these notes are out: the empty slots of the job's edges, its own, and
-- those of its inputs
abbrev pub IsOut : {T K S : Type 0} → S → Plan T K → ℕ → List (ℕ × S) → Type 0
IsOut empty p j c =
    c ≡ waiting_slots empty (graph_of p) j (inputs_of (dependents_of p) j)
    ++ held_by empty (graph_of p) j empty

-- the own slot of each job
pub record AreOwn (g : List (List ℕ)) (own : List ℕ) : Type 0 where
  pub count : length own ≡ length g
  pub each : (k : ℕ) → k < length g → slice_index own k ≡ own_slot g k

-- the seat may step on the table of this plan, and holds no slot
pub record MayWork {T K S : Type 0} (z : TableId) (p : Plan T K) (seat : Seat S (View T K)) : Type 0
  where
    pub fits : IsFor z p seat.table_id seat.me.0
    pub empty_handed : seat.me.1 ≡ []

-- the words of a board where nothing was done yet
pub record AreFirstWords (g : List (List ℕ)) (words : List ℕ) : Type 0 where
  pub wide : length words ≡ 2 * length g + 1
  pub done : slice_index words 0 ≡ 0
  pub each : (j : ℕ) → j < length g → (slice_index words (2 * j + 1) ≡ 0)
      × (slice_index words (2 * j + 2) ≡ length (inputs_of g j))
