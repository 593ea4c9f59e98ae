-- Marks of circuits.
use Rattle.std.specs.Prelude.{◌≡◌, ◌<◌, ℕ, Bool, true, false, List, [], ◌∷◌, length, replicate}
use Rattle.std.specs.Prelude.{slice_set, slice_index_or, Option, Some, None}
use Rattle.plain_netlist.specs.Netlist.{CallRow, Circuit, Netlist, IsCall}
use Rattle.net_model.specs.Faults.{called_by}

-- each call is of a circuit
abbrev pub AreCallsOfCircuits : Netlist → Type 0
AreCallsOfCircuits nl =
    (c k : ℕ) (row : CallRow) → IsCall nl c k row → row.circuit < length nl.circuits

-- marks with these set
abbrev pub marked : List ℕ → List Bool → List Bool
marked [] marks = marks
marked (b ∷ bs) marks = marked bs (slice_set marks b true)

-- marks with those set that these circuits call
abbrev pub marked_by : List Circuit → List Bool → List Bool
marked_by [] marks = marks
marked_by (c ∷ cs) marks = marked_by cs (marked (called_by c) marks)

-- for each circuit whether a call names it
abbrev pub circuits_called : Netlist → List Bool
circuits_called nl = marked_by nl.circuits (replicate (length nl.circuits) false)

-- there is a mark, and it isn't set
pub record IsUnmarked (marks : List Bool) (b : ℕ) : Type 0 where
  pub low : b < length marks
  pub unset : slice_index_or marks b false ≡ false

-- the only one of these
pub record IsSole (marks : List Bool) (b : ℕ) : Type 0 where
  pub here : IsUnmarked marks b
  pub one : (c : ℕ) → IsUnmarked marks c → c ≡ b

-- it, or none where there is none
abbrev pub FindsSole : List Bool → Option ℕ → Type 0
FindsSole marks None = (b : ℕ) → IsSole marks b → ⊥
FindsSole marks (Some b) = IsSole marks b

-- the same of the first n marks, none where none of them is unset
abbrev pub SoleBelow : List Bool → ℕ → Option ℕ → Type 0
SoleBelow marks n None = (c : ℕ) → c < n → IsUnmarked marks c → ⊥
SoleBelow marks n (Some b) =
    (b < n) × IsUnmarked marks b × ((c : ℕ) → c < n → IsUnmarked marks c → c ≡ b)
