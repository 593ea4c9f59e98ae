-- Sums of a list's first entries.
use Rattle.std.proofs.Common.{◌≡◌, ℕ, ◌+◌, ◌≤◌, ◌<◌, List, take, length, get_or, ap, ◌∙◌, arith}
use Rattle.std.specs.List.{sum_by}
use Rattle.std.proofs.lemmas.List.{take_more}
use Rattle.std.proofs.lemmas.List.Sums.{sum_by-take-le, sum_by_push}

-- one entry more
pub one_more : {A : Type 0} (f : A → ℕ) (xs : List A) (i : ℕ) (d : A) → i < length xs → sum_by f (take (i + 1) xs) ≡ sum_by f (take i xs) + f (get_or xs i d)
one_more f xs i d lt = ap (sum_by f) (take_more xs i d lt) ∙ sum_by_push f (take i xs) (get_or xs i d)

-- is at most the whole
pub in_room : {A : Type 0} (f : A → ℕ) (xs : List A) (i : ℕ) (d : A) → i < length xs → sum_by f (take i xs) + f (get_or xs i d) ≤ sum_by f xs
in_room f xs i d lt = let e = one_more f xs i d lt in let le = sum_by-take-le f xs (i + 1) in omega (arith, e, le)
