-- Rows of nodes that are alone, one behind the other.
use Rattle.std.proofs.Common.{◌≡◌, ◌∙◌, ℕ, suc, ◌+◌, ◌-◌, ◌<◌, ◌≤◌, List, [], ◌∷◌, ◌++◌, sym, ap, arith, append_assoc, append-nil}
use Rattle.view_cross.specs.declared.rows.Row.{Row}
use Rattle.view_cross.specs.Matched.{lone_rows}

-- the k-th row is written
pub one_more : (row : ℕ → Row) (out all : List Row) (k n : ℕ) → k < n → out ++ lone_rows row k (n - k) ≡ all
    → (out ++ row k ∷ []) ++ lone_rows row (k + 1) (n - (k + 1)) ≡ all
one_more row out all k n h e =
    let s : suc (n - (k + 1)) ≡ n - k = omega arith in
    append_assoc out (row k ∷ []) (lone_rows row (k + 1) (n - (k + 1))) ∙ ap (λ m. out ++ lone_rows row k m) s ∙ e

-- all rows are written
pub no_more : (row : ℕ → Row) (out all : List Row) (k n : ℕ) → n ≤ k → out ++ lone_rows row k (n - k) ≡ all → out ≡ all
no_more row out all k n h e =
    let s : 0 ≡ n - k = omega arith in
    sym (append-nil out) ∙ ap (λ m. out ++ lone_rows row k m) s ∙ e
