-- The slots of the board: for each job one for each of its inputs, in order, and one of its own
-- behind them.
use Rattle.std.specs.Prelude.{replicate, ◌≡◌, ℕ, zero, suc, ◌+◌, ◌<◌, Bool, true, false, not, ◌==◌}
use Rattle.std.specs.Prelude.{if◌then◌else◌, List, [], ◌∷◌, ◌++◌, map, length, slice_index}
use mathlib.Core.Option.{some, none}
use mathlib.Core.Option as maybe
use lib.ListN.{get_elem?}
use Rattle.job_graph.specs.Graph.{inputs_of, has}

-- the first slot of a job
abbrev pub first : List (List ℕ) → ℕ → ℕ
first [] k = 0
first (l ∷ ls) zero = 0
first (l ∷ ls) (suc k) = suc (length l) + first ls k

abbrev pub own_slot : List (List ℕ) → ℕ → ℕ
own_slot g k = first g k + length (inputs_of g k)

-- where a number stands in a list
abbrev pub place : ℕ → List ℕ → ℕ
place x [] = 0
place x (y ∷ ys) = if x == y then 0 else suc (place x ys)

-- the slot of the edge from i to k
abbrev pub edge_slot : List (List ℕ) → ℕ → ℕ → ℕ
edge_slot g i k = first g k + place i (inputs_of g k)

-- a slot is at home and empty, out with the seat that holds the job that it serves, or at home
-- with a note
pub data Spot : Type 0 where
  Vacant : Spot
  Out : Spot
  Filled : Spot

-- of an edge, by whether its source is claimed, it has arrived, its dependent is claimed, and is
-- finished
abbrev pub edge_spot : Bool → Bool → Bool → Bool → Spot
edge_spot source arrived true true = Vacant
edge_spot source arrived true false = Out
edge_spot source true false finished = Filled
edge_spot true false false finished = Out
edge_spot false false false finished = Vacant

-- of a job's own slot, by whether it is claimed, and is finished
abbrev pub own_spot : Bool → Bool → Spot
own_spot false finished = Vacant
own_spot true false = Out
own_spot true true = Filled

module _ {S : Type 0} (empty : S) (right : ℕ → S → Type 0) where
  -- the slot shows where the note of the job i is
  abbrev pub SpotOk : Spot → ℕ → maybe.Option (maybe.Option S) → Type 0
  SpotOk Vacant i h = h ≡ some (some empty)
  SpotOk Out i h = h ≡ some none
  SpotOk Filled i h = (y : S) × (h ≡ some (some y)) × right i y

  module _ (g d : List (List ℕ)) (awaits : ℕ → List ℕ) (stage : ℕ → ℕ) where
    -- the slot of the edge from the q-th input of k
    abbrev pub EdgeOk : List (maybe.Option S) → ℕ → ℕ → Type 0
    EdgeOk homes k q =
        let i = slice_index (inputs_of g k) q in
        SpotOk (edge_spot (not (stage i == 0)) (not (has i (awaits k))) (not (stage k == 0))
        (stage k == length (inputs_of d k) + 2)) i (get_elem? homes (first g k + q))

    -- the own slot of k
    abbrev pub OwnOk : List (maybe.Option S) → ℕ → Type 0
    OwnOk homes k =
        SpotOk (own_spot (not (stage k == 0)) (stage k == length (inputs_of d k) + 2)) k
        (get_elem? homes (own_slot g k))

    pub record SlotsOk (homes : List (maybe.Option S)) : Type 0 where
      pub deep : length homes ≡ first g (length g)
      pub edges : (k q : ℕ) → k < length g → q < length (inputs_of g k) → EdgeOk homes k q
      pub own : (k : ℕ) → k < length g → OwnOk homes k

-- the values side by side from the slot n on
abbrev pub numbered : {S : Type 0} → ℕ → List S → List (ℕ × S)
numbered n [] = []
numbered n (y ∷ ys) = (n, y) ∷ numbered (suc n) ys

-- the slots that the claim of j takes: those of its inputs, of its edges to dependents, and its own
abbrev pub taken : {S : Type 0} → S → List (List ℕ) → List (List ℕ) → ℕ → List S → List (ℕ × S)
taken empty g d j ys =
    numbered (first g j) ys
    ++ (map (λ k. (edge_slot g j k, empty)) (inputs_of d j) ++ (own_slot g j, empty) ∷ [])

-- one right value for each of these jobs
abbrev pub AreRight : {S : Type 0} → (ℕ → S → Type 0) → List ℕ → List S → Type 0
AreRight right [] [] = Unit {0}
AreRight right (i ∷ is) (y ∷ ys) = right i y × AreRight right is ys
AreRight right (i ∷ is) [] = ⊥
AreRight right [] (y ∷ ys) = ⊥

-- what a seat holds once the notes are taken out and all dependents of j are told
abbrev pub held_by : {S : Type 0} → S → List (List ℕ) → ℕ → S → List (ℕ × S)
held_by empty g j y =
    (own_slot g j, y) ∷ numbered (first g j) (replicate (length (inputs_of g j)) empty)
