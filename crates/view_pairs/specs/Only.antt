-- Couples that are sure: those of a pairing, and nets that alone have a name on both sides.
use Rattle.std.specs.Prelude.{◌≡◌, ◌<◌, ℕ, ◌+◌, ◌==◌, Bool, true, not, List, [], ◌∷◌, Option, Some}
use Rattle.std.specs.Prelude.{slice_get}
use Rattle.std.specs.List.{list_any}
use Rattle.view_pairs.specs.Partners.{IsFirst, sure}
use Rattle.view_pairs.specs.declared.partners.Couple.{Couple}

-- the right number of each left node, from the k-th on
abbrev pub in_order : ℕ → List ℕ → List Couple
in_order k [] = []
in_order k (m ∷ ms) = sure k m ∷ in_order (k + 1) ms

-- a name that someone gave: it has no $
abbrev pub is_given : List ℕ → Bool
is_given name = not (list_any (λ b. b == 0x24) name)

-- x stands at this place and at no other
abbrev pub IsOnly : {T : Type 0} → T → ℕ → List T → Type 0
IsOnly {T} x k xs = (slice_get xs k ≡ Some x) × ((j : ℕ) → slice_get xs j ≡ Some x → j ≡ k)

-- what passes and stands once on each side is of a couple with which no earlier one shares a node
abbrev pub AreOnlyFirst : {T : Type 0} → (T → Bool) → List T → List T → List Couple → Type 0
AreOnlyFirst {T} passes lefts rights couples = (x : T) (k m : ℕ) → passes x ≡ true
    → IsOnly x k lefts → IsOnly x m rights → IsFirst (sure k m) couples

-- the same of keys below a count
abbrev pub AreKeysFirst : ℕ → List (Option ℕ) → List (Option ℕ) → List Couple → Type 0
AreKeysFirst count lefts rights couples = (x k m : ℕ) → x < count → IsOnly (Some x) k lefts
    → IsOnly (Some x) m rights → IsFirst (sure k m) couples
