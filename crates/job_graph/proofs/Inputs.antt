-- Numbers in ascending lists.
use Rattle.std.proofs.Common.{◌≡◌, ◌≢◌, ℕ, zero, suc, ◌<◌, ◌≤◌, true, false, List, [], ◌∷◌, length, get_or, refl, sym, ap, ◌∙◌, arith}
use Rattle.std.proofs.lemmas.Bool.Decides.{nat_tests}
use Rattle.std.proofs.Math.Decide.{ℕ_discrete, dec_lt}
use mathlib.Core.Logic.{dite}
use Rattle.job_graph.specs.Graph.{inputs_of, has, AreAscending, LowerLaw}

pub has_here : (x y : ℕ) (ys : List ℕ) → x ≡ y → has x (y ∷ ys) ≡ true
has_here x y ys e = grind (arith, nat_tests)

pub has_else : (x y : ℕ) (ys : List ℕ) → x ≢ y → has x (y ∷ ys) ≡ has x ys
has_else x y ys e = grind (arith, nat_tests)

-- what stands in an ascending list lies in its range
pub has_within : (low x : ℕ) (ys : List ℕ) (high : ℕ) → AreAscending low ys high → has x ys ≡ true → (low ≤ x) × (x < high)
has_within low x [] high a h = absurd (cc)
has_within low x (y ∷ ys) high a h = dite (ℕ_discrete x y)
    (λ e. (omega arith, omega arith))
    (λ n. let r = has_within (suc y) x ys high a.2 (sym (has_else x y ys n) ∙ h) in (omega arith, r.1))

-- past the last job there are no inputs
pub none_past : {A : Type 0} (xs : List A) (i : ℕ) (d : A) → (i < length xs → ⊥) → get_or xs i d ≡ d
none_past [] i d n = refl
none_past (x ∷ xs) zero d n = absurd (n (omega arith))
none_past (x ∷ xs) (suc i) d n = none_past xs i d (λ l. n (omega arith))

-- each item of a list stands in it
pub item_has : (xs : List ℕ) (k d : ℕ) → k < length xs → has (get_or xs k d) xs ≡ true
item_has [] k d l = absurd (omega arith)
item_has (x ∷ xs) zero d l = has_here x x xs refl
item_has (x ∷ xs) (suc k) d l = dite (ℕ_discrete (get_or xs k d) x) (λ e. has_here (get_or xs k d) x xs e) (λ n. has_else (get_or xs k d) x xs n ∙ item_has xs k d (omega arith))

pub lower_law : LowerLaw
lower_law graph a job input w = dite (dec_lt job (length graph))
    (λ l. ((has_within 0 input (inputs_of graph job) job (a.lower job l) w).1, l))
    (λ n. let e : inputs_of graph job ≡ [] = none_past graph job [] (λ l. n l) in let f : has input (inputs_of graph job) ≡ false = ap (has input) e in absurd (cc))
