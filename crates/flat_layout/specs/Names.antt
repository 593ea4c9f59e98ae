-- The names of a circuit's nets and of the circuits, so that no two nets of a circuit and no two
-- circuits have one name.
use Rattle.std.specs.Prelude.{ℕ, suc, Bool, true, false, ◌==◌, ◌&&◌, ◌||◌, if◌then◌else◌, List, []}
use Rattle.std.specs.Prelude.{◌∷◌, ◌++◌, decimal, bytes_eq}
use Rattle.std.specs.List.{list_any}

-- each base as it is or, where a test of the earlier bases and itself says so, with an ending of
-- its number, k being the first one's
abbrev pub apart_names : (List (List ℕ) → List ℕ → Bool) → (ℕ → List ℕ) → List (List ℕ) → ℕ
    → List (List ℕ) → List (List ℕ)
apart_names needs ending earlier k [] = []
apart_names needs ending earlier k (b ∷ bs) =
    (if needs earlier b then b ++ ending k else b)
    ∷ apart_names needs ending (b ∷ earlier) (suc k) bs

abbrev pub is_empty : List ℕ → Bool
is_empty [] = true
is_empty (b ∷ s) = false

abbrev pub has_byte : ℕ → List ℕ → Bool
has_byte b s = list_any (λ c. c == b) s

-- two $ in a row
abbrev pub has_two : List ℕ → Bool
has_two [] = false
has_two (a ∷ []) = false
has_two (a ∷ b ∷ s) = ((a == 36) && (b == 36)) || has_two (b ∷ s)

abbrev pub is_used : List ℕ → List (List ℕ) → Bool
is_used s earlier = list_any (bytes_eq s) earlier

-- a net's folded base gets $ and the net's number where it is empty, has a $ or is an earlier one's
abbrev pub net_needs : List (List ℕ) → List ℕ → Bool
net_needs earlier b = is_empty b || (has_byte 36 b || is_used b earlier)

abbrev pub net_ending : ℕ → List ℕ
net_ending k = 36 ∷ decimal k

-- the names of nets, by their folded bases
abbrev pub net_names : List (List ℕ) → ℕ → List (List ℕ) → List (List ℕ)
net_names earlier k bases = apart_names net_needs net_ending earlier k bases

-- a cell's folded name gets $$ and the circuit's position where it has $$ or is an earlier one's
abbrev pub circuit_needs : List (List ℕ) → List ℕ → Bool
circuit_needs earlier n = has_two n || is_used n earlier

abbrev pub circuit_ending : ℕ → List ℕ
circuit_ending k = 36 ∷ 36 ∷ decimal k

-- the names of circuits, by their cells' folded names
abbrev pub circuit_names : List (List ℕ) → ℕ → List (List ℕ) → List (List ℕ)
circuit_names earlier k names = apart_names circuit_needs circuit_ending earlier k names
