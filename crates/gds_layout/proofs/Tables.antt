-- Look-ups among layers that a table holds.
use Rattle.std.proofs.Common.{◌≡◌, ℕ, ◌≤◌, List, [], ◌∷◌, ◌++◌, Bool, true, false, cond, Some, None, refl, arith}
use Rattle.std.specs.Prelude.{nat_lt, unwrap_or}

-- the place, or the length
pub or_len : (n m : ℕ) (b : Bool) → nat_lt n m ≡ b → n ≤ m → unwrap_or (cond b (Some n) None) m ≡ n
or_len n m true e h = refl
or_len n m false e h = grind (arith, e, h)

-- what isn't there goes last
pub pushed : {A : Type 0} (b : Bool) (xs : List A) (x : A) → b ≡ false → cond b xs (xs ++ x ∷ []) ≡ xs ++ x ∷ []
pushed b xs x e = rw e refl
