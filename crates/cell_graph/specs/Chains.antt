-- Chains of steps between numbers, by a relation that says which steps there are.
use Rattle.std.specs.Prelude.{◌≡◌, ℕ, zero, suc, ◌<◌, ◌≤◌, List, length, get_or}

-- n steps lead from one to the other
abbrev pub Leads : (ℕ → ℕ → Type 0) → ℕ → ℕ → ℕ → Type 0
Leads R i zero j = i ≡ j
Leads R i (suc n) j = (k : ℕ) × R i k × Leads R k n j

-- one or more steps lead to it
abbrev pub IsBelow : (ℕ → ℕ → Type 0) → ℕ → ℕ → Type 0
IsBelow R i j = (n : ℕ) × Leads R i (suc n) j

abbrev pub IsOnCycle : (ℕ → ℕ → Type 0) → ℕ → Type 0
IsOnCycle R i = IsBelow R i i

-- a chain of so many steps goes down from it
abbrev pub HasChain : (ℕ → ℕ → Type 0) → ℕ → ℕ → Type 0
HasChain R i n = (j : ℕ) × Leads R i n j

-- a chain of more than 64 steps goes down from it
abbrev pub IsTooDeep : (ℕ → ℕ → Type 0) → ℕ → Type 0
IsTooDeep R i = (n : ℕ) × (64 < n) × HasChain R i n

-- the longest chain's steps
pub record IsHeightOf (R : ℕ → ℕ → Type 0) (i height : ℕ) : Type 0 where
  pub chain : HasChain R i height
  pub longest : (n : ℕ) → HasChain R i n → n ≤ height

-- the least number that has P
pub record IsFirst (P : ℕ → Type 0) (i : ℕ) : Type 0 where
  pub here : P i
  pub before : (j : ℕ) → j < i → P j → ⊥

-- and the next that has P
pub record AreFirstTwo (P : ℕ → Type 0) (i j : ℕ) : Type 0 where
  pub first : IsFirst P i
  pub next : IsFirst (λ k. (i < k) × P k) j

-- what the heights are: right where they are below 65, and 65 where there is a chain too long
pub record AreHeights (R : ℕ → ℕ → Type 0) (heights : List ℕ) : Type 0 where
  pub height : (i : ℕ) → i < length heights → get_or heights i 0 < 65
      → IsHeightOf R i (get_or heights i 0)
  pub low : (i : ℕ) → i < length heights → get_or heights i 0 ≤ 65
  pub deep : (i : ℕ) → i < length heights → get_or heights i 0 ≡ 65 → IsTooDeep R i
