-- First numbers of a kind; what heights tell of chains too long.
use Rattle.std.proofs.Common.{ℕ, ◌+◌, ◌<◌, ◌≤◌, Some, subst, arith}
use Rattle.std.proofs.Math.Decide.{ℕ_discrete}
use Rattle.cell_graph.specs.Chains.{IsTooDeep, IsHeightOf}
use Rattle.cell_graph.specs.Firsts.{HasNone, IsFirstOr}

pub no_deep_low : (R : ℕ → ℕ → Type 0) (i h : ℕ) → h < 65 → IsHeightOf R i h → IsTooDeep R i → ⊥
no_deep_low R i h lt of (n, more, chain) = let long = of.longest n chain in let z : ⊥ = omega arith in z

-- the next number hasn't it either
pub none_more : (P : ℕ → Type 0) (n : ℕ) → (P n → ⊥) → HasNone P n → HasNone P (n + 1)
none_more P n not h i lt p = elim (ℕ_discrete i n) [ yes e ↦ not (subst P e p) | no e ↦ h i (let f : i < n = omega arith in f) p ]

pub is_first : (P : ℕ → Type 0) (n i : ℕ) → i < n → P i → HasNone P i → IsFirstOr P n (Some i)
is_first P n i lt p h = (lt, record { here = p; before = h })

pub none_to : (P : ℕ → Type 0) (n m : ℕ) → n ≤ m → HasNone P m → HasNone P n
none_to P n m le h i lt p = h i (let f : i < m = omega arith in f) p
