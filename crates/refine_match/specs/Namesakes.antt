-- Right nets of the names of left ones.
use Rattle.std.specs.Prelude.{◌≡◌, ◌≢◌, ◌<◌, ◌≤◌, ℕ, Bool, true, false, List, []}
use Rattle.std.specs.Prelude.{Option, Some, None}
use Rattle.std.specs.Prelude.{bytes_eq, length, slice_index_or}
use Rattle.std.specs.Borrow.{Bor}
use Rattle.net_model.specs.declared.netlist.Circuit.{Circuit}
use Rattle.match_graph.specs.declared.graph.Graph.{Graph}
use Rattle.match_graph.specs.Graph.{left_of, nodes_of}
use Rattle.refine_match.specs.Candidates.{have_one_name}

abbrev pub name_of : Circuit → ℕ → List ℕ
name_of c n = slice_index_or c.nets.items n []

-- of the nets from this one on, the first of the name, or that there is none
abbrev pub IsFirstNet : Circuit → ℕ → List ℕ → Option ℕ → Type 0
IsFirstNet c from name (Some v) = (from ≤ v) × (v < length c.nets.items) × (name_of c v ≡ name)
    × ((n : ℕ) → from ≤ n → n < length c.nets.items → name_of c n ≡ name → v ≤ n)
IsFirstNet c from name None = (n : ℕ) → from ≤ n → n < length c.nets.items → name_of c n ≢ name

abbrev pub is_same_name : Bor (List ℕ) → Bor (List ℕ) → Bool
is_same_name x y = bytes_eq x.now y.now

-- the first net of each name is found
abbrev pub AreFirsts : Circuit → ℕ → (Bor (List ℕ) → Option ℕ) → Type 0
AreFirsts c from found = (q : Bor (List ℕ)) → IsFirstNet c from q.now (found q)

-- for each of the first m left nets the first right net of its name
pub record AreNamesakesTo (left right : Circuit) (found : List (Option ℕ)) (m : ℕ) : Type 0 where
  pub long : length found ≡ m
  pub each : (n : ℕ) → n < m → IsFirstNet right 0 (name_of left n) (slice_index_or found n None)

abbrev pub AreNamesakes : Circuit → Circuit → List (Option ℕ) → Type 0
AreNamesakes left right found = AreNamesakesTo left right found (length left.nets.items)

-- no right node is a net of the name of this left node
abbrev pub IsNameless : Graph → Circuit → Circuit → ℕ → Type 0
IsNameless g left right x = (y : ℕ) → left_of g ≤ y → have_one_name g left right x y ≡ false

-- of the right nets of the name of this left node, y is the first
pub record IsFirstNamed (g : Graph) (left right : Circuit) (x y : ℕ) : Type 0 where
  pub low : left_of g ≤ y
  pub below : y < nodes_of g
  pub named : have_one_name g left right x y ≡ true
  pub first : (a : ℕ) → left_of g ≤ a → have_one_name g left right x a ≡ true → y ≤ a

-- the first right net of the name of this left node, or that there is none
abbrev pub IsNamesake : Graph → Circuit → Circuit → ℕ → Option ℕ → Type 0
IsNamesake g left right x (Some y) = IsFirstNamed g left right x y
IsNamesake g left right x None = IsNameless g left right x
