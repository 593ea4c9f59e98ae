-- Lists of numbers without one, and functions changed at one place.
use Rattle.std.proofs.Common.{◌≡◌, ◌≢◌, ℕ, zero, suc, ◌+◌, ◌<◌, ◌≤◌, true, false, ◌||◌, ◌==◌, List, [], ◌∷◌, length, get_or, take, drop, ◌++◌, refl, sym, ap, ◌∙◌, subst, arith}
use Rattle.std.proofs.lemmas.Bool.Decides.{nat_tests}
use Rattle.std.proofs.Math.Decide.{ℕ_discrete}
use mathlib.Core.Logic.{dite}
use Rattle.job_graph.specs.Graph.{AreAscending, has}
use Rattle.job_graph.specs.Machine.{less, put}
use Rattle.job_graph.proofs.Inputs.{has_here, has_else, has_within, item_has}

module _ {A : Type 0} where
  pub put_here : (f : ℕ → A) (i : ℕ) (a : A) (j : ℕ) → j ≡ i → put f i a j ≡ a
  put_here f i a j e = grind (arith, nat_tests)

  pub put_else : (f : ℕ → A) (i : ℕ) (a : A) (j : ℕ) → j ≢ i → put f i a j ≡ f j
  put_else f i a j n = grind (arith, nat_tests)

pub less_here : (x y : ℕ) (ys : List ℕ) → x ≡ y → less x (y ∷ ys) ≡ ys
less_here x y ys e = grind (arith, nat_tests)

pub less_else : (x y : ℕ) (ys : List ℕ) → x ≢ y → less x (y ∷ ys) ≡ y ∷ less x ys
less_else x y ys e = grind (arith, nat_tests)

pub length_less : (x : ℕ) (ys : List ℕ) → has x ys ≡ true → suc (length (less x ys)) ≡ length ys
length_less x [] h = cc
length_less x (y ∷ ys) h = dite (ℕ_discrete x y)
    (λ e. ap (λ zs. suc (length zs)) (less_here x y ys e))
    (λ n. ap (λ zs. suc (length zs)) (less_else x y ys n) ∙ ap suc (length_less x ys (sym (has_else x y ys n) ∙ h)))

pub has_less_else : (x y : ℕ) (ys : List ℕ) → y ≢ x → has y (less x ys) ≡ has y ys
has_less_else x y [] n = refl
has_less_else x y (z ∷ ys) n = dite (ℕ_discrete x z)
    (λ e. ap (has y) (less_here x z ys e) ∙ sym (has_else y z ys (λ f. n (f ∙ sym e))))
    (λ m. ap (has y) (less_else x z ys m) ∙ ap (λ b. (y == z) || b) (has_less_else x y ys n))

pub has_low : (low x : ℕ) (ys : List ℕ) (high : ℕ) → AreAscending low ys high → x < low → has x ys ≡ false
has_low low x [] high a h = refl
has_low low x (y ∷ ys) high a h = let n : x ≢ y = λ e. absurd (omega arith) in has_else x y ys n ∙ has_low (suc y) x ys high a.2 (omega arith)

pub has_less : (low x : ℕ) (ys : List ℕ) (high : ℕ) → AreAscending low ys high → has x (less x ys) ≡ false
has_less low x [] high a = refl
has_less low x (y ∷ ys) high a = dite (ℕ_discrete x y)
    (λ e. ap (has x) (less_here x y ys e) ∙ has_low (suc y) x ys high a.2 (omega arith))
    (λ n. ap (has x) (less_else x y ys n) ∙ has_else x y (less x ys) n ∙ has_less (suc y) x ys high a.2)

pub ascending_length : (low : ℕ) (ys : List ℕ) (high : ℕ) → AreAscending low ys high → low ≤ high → low + length ys ≤ high
ascending_length low [] high a h = omega arith
ascending_length low (y ∷ ys) high a h = let r = ascending_length (suc y) ys high a.2 (omega arith) in omega arith

pub less_none : (x : ℕ) (ys : List ℕ) → has x ys ≡ false → less x ys ≡ ys
less_none x [] h = refl
less_none x (y ∷ ys) h = dite (ℕ_discrete x y) (λ e. let t = has_here x y ys e in absurd (cc)) (λ n. less_else x y ys n ∙ ap (λ zs. y ∷ zs) (less_none x ys (sym (has_else x y ys n) ∙ h)))

lower : (low low' : ℕ) (ys : List ℕ) (high : ℕ) → low' ≤ low → AreAscending low ys high → AreAscending low' ys high
lower low low' [] high l a = tt
lower low low' (y ∷ ys) high l a = (omega arith, a.1, a.2)

pub ascending_less : (low x : ℕ) (ys : List ℕ) (high : ℕ) → AreAscending low ys high → AreAscending low (less x ys) high
ascending_less low x [] high a = tt
ascending_less low x (y ∷ ys) high a = dite (ℕ_discrete x y)
    (λ e. subst (λ zs. AreAscending low zs high) (sym (less_here x y ys e)) (lower (suc y) low ys high (omega arith) a.2))
    (λ n. subst (λ zs. AreAscending low zs high) (sym (less_else x y ys n)) (a.0, a.1, ascending_less (suc y) x ys high a.2))

pub taken_out : (x : ℕ) (xs : List ℕ) (i : ℕ) → i < length xs → get_or xs i 0 ≡ x → has x (take i xs) ≡ false → (has x xs ≡ true) × (take i xs ++ drop (suc i) xs ≡ less x xs)
taken_out x [] i l e h = absurd (omega arith)
taken_out x (y ∷ ys) zero l e h = (has_here x y ys (sym e), sym (less_here x y ys (sym e)))
taken_out x (y ∷ ys) (suc i) l e h = dite (ℕ_discrete x y)
    (λ s. let t = has_here x y (take i ys) s in absurd (cc))
    (λ n. let r = taken_out x ys i (omega arith) e (sym (has_else x y (take i ys) n) ∙ h) in (has_else x y ys n ∙ r.0, ap (λ zs. y ∷ zs) r.1 ∙ sym (less_else x y ys n)))

-- in an ascending list no number stands before itself
pub none_before : (low : ℕ) (xs : List ℕ) (high i : ℕ) → AreAscending low xs high → i < length xs → has (get_or xs i 0) (take i xs) ≡ false
none_before low [] high i a l = absurd (omega arith)
none_before low (x ∷ xs) high zero a l = refl
none_before low (x ∷ xs) high (suc i) a l =
    let up = has_within (suc x) (get_or xs i 0) xs high a.2 (item_has xs i 0 (omega arith)) in let n : get_or xs i 0 ≢ x = λ e. absurd (omega arith) in
    has_else (get_or xs i 0) x (take i xs) n ∙ none_before (suc x) xs high i a.2 (omega arith)

pub ascending_at : (low : ℕ) (xs : List ℕ) (high i j : ℕ) → AreAscending low xs high → i ≤ j → j < length xs → get_or xs i 0 ≤ get_or xs j 0
ascending_at low [] high i j a le l = absurd (omega arith)
ascending_at low (x ∷ xs) high zero zero a le l = omega arith
ascending_at low (x ∷ xs) high zero (suc j) a le l = let up = has_within (suc x) (get_or xs j 0) xs high a.2 (item_has xs j 0 (omega arith)) in omega arith
ascending_at low (x ∷ xs) high (suc i) zero a le l = absurd (omega arith)
ascending_at low (x ∷ xs) high (suc i) (suc j) a le l = ascending_at (suc x) xs high i j a.2 (omega arith) (omega arith)

-- what is none of the items doesn't stand in the list
pub not_item : (x : ℕ) (xs : List ℕ) → ((k : ℕ) → k < length xs → get_or xs k 0 ≢ x) → has x xs ≡ false
not_item x [] h = refl
not_item x (y ∷ ys) h = has_else x y ys (λ e. h zero (omega arith) (sym e)) ∙ not_item x ys (λ k l. h (suc k) (omega arith))
