-- Two nodes parted from the rest of their classes.
use Rattle.std.specs.Prelude.{◌≡◌, ◌↔◌, ◌<◌, ◌==◌, ◌||◌, ℕ, Bool, List, [], ◌∷◌}
use Rattle.match_rounds.specs.declared.classes.Classes.{Classes}
use Rattle.match_rounds.specs.declared.groups.Part.{Part}
use Rattle.match_rounds.specs.Classes.{class_in}

abbrev pub part_at : Classes → ℕ → ℕ → Part
part_at c a count = record { class = class_in c a; count = count; node = a }

abbrev pub pair_of : Classes → ℕ → ℕ → List Part
pair_of c a b = part_at c a 1 ∷ part_at c b 1 ∷ []

-- whether the node is one of the two
abbrev pub is_of_pair : ℕ → ℕ → ℕ → Bool
is_of_pair a b x = (a == x) || (b == x)

-- nodes are of one class now exactly where they were, and both or neither are of the pair
abbrev pub IsPairParted : Classes → Classes → ℕ → ℕ → ℕ → Type 0
IsPairParted old new a b n = (x y : ℕ) → x < n → y < n
    → (class_in new x ≡ class_in new y) ↔ ((class_in old x ≡ class_in old y)
    × (is_of_pair a b x ≡ is_of_pair a b y))
