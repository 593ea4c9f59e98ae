-- The longest of names, part by part.
use Rattle.std.proofs.Common.{◌≡◌, ℕ, List, [], ◌∷◌, ◌++◌, length, ap, ◌∙◌, arith}
use Rattle.pair_turns.specs.Alone.{greater, longest}

none_first : (most : ℕ) → most ≡ greater 0 most
none_first most = grind arith

one_more : (one rest most : ℕ) → greater one (greater rest most) ≡ greater (greater one rest) most
one_more one rest most = grind arith

-- the longest of a part, and of what stands behind
pub longest_join : (xs ys : List (List ℕ)) → longest (xs ++ ys) ≡ greater (longest xs) (longest ys)
longest_join [] ys = none_first (longest ys)
longest_join (x ∷ xs) ys = ap (λ (n : ℕ). greater (length x) n) (longest_join xs ys) ∙ one_more (length x) (longest xs) (longest ys)

pub longest_last : (xs : List (List ℕ)) → greater (longest xs) 0 ≡ longest xs
longest_last xs = grind arith
