-- Rows of calls as lists.
use Rattle.std.proofs.Common.{◌≡◌, ◌≤◌, ◌<◌, ℕ, zero, suc, List, [], ◌∷◌, ◌++◌, length, refl, ap, arith}
use Rattle.std.specs.Prelude.{slice_index_or, slice_set}
use Rattle.std.specs.Global.{Vec}
use Rattle.call_order.specs.Order.{lists}

pub lists_more : (rows : List (Vec ℕ)) (r : Vec ℕ) → r.items ≡ [] → lists (rows ++ r ∷ []) ≡ lists rows ++ [] ∷ []
lists_more [] r e = ap (λ (xs : List ℕ). xs ∷ []) e
lists_more (x ∷ rows) r e = ap (λ (xs : List (List ℕ)). x.items ∷ xs) (lists_more rows r e)

pub lists_long : (rows : List (Vec ℕ)) → length (lists rows) ≡ length rows
lists_long [] = refl
lists_long (x ∷ rows) = ap suc (lists_long rows)

pub set_past : {A : Type 0} (xs : List A) (k : ℕ) (x : A) → length xs ≤ k → slice_set xs k x ≡ xs
set_past [] k x h = refl
set_past (y ∷ xs) zero x h = absurd (omega (arith, h))
set_past (y ∷ xs) (suc k) x h = ap (λ zs. y ∷ zs) (set_past xs k x (omega (arith, h)))

pub lists_set : (rows : List (Vec ℕ)) (k : ℕ) (r : Vec ℕ) → lists (slice_set rows k r) ≡ slice_set (lists rows) k r.items
lists_set [] k r = refl
lists_set (x ∷ rows) zero r = refl
lists_set (x ∷ rows) (suc k) r = ap (λ (xs : List (List ℕ)). x.items ∷ xs) (lists_set rows k r)

pub lists_at : (rows : List (Vec ℕ)) (k : ℕ) (d : Vec ℕ) → k < length rows → slice_index_or (lists rows) k [] ≡ (slice_index_or rows k d).items
lists_at [] k d h = absurd (omega (arith, h))
lists_at (x ∷ rows) zero d h = refl
lists_at (x ∷ rows) (suc k) d h = lists_at rows k d (omega (arith, h))
