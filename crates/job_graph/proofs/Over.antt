-- Laws on what the graph of a phase is.
use Rattle.std.proofs.Common.{◌≡◌, ℕ, zero, suc, ◌+◌, ◌<◌, ◌≤◌, true, List, [], ◌∷◌, map, length, get_or, slice_index, refl, sym, ap, ◌∙◌, subst, arith}
use Rattle.std.proofs.lemmas.Option.{slice_get_within, get_or_from_slice_get}
use Rattle.std.proofs.Math.Decide.{ℕ_discrete, dec_lt}
use mathlib.Core.Logic.{dite}
use Rattle.plain_netlist.specs.Lists.{AreApart}
use Rattle.plain_netlist.proofs.Listing.{at_apart}
use Rattle.job_graph.specs.Graph.{inputs_of, AreAscending, has}
use Rattle.job_graph.specs.Over.{OnceLaw, PlaceLaw, AscendLaw, OverLaw}
use Rattle.job_graph.proofs.Inputs.{has_here, has_else, has_within, item_has, none_past}

pub ascending_strict : (low : ℕ) (xs : List ℕ) (high i j : ℕ) → AreAscending low xs high → i < j → j < length xs → get_or xs i 0 < get_or xs j 0
ascending_strict low [] high i j a lt l = absurd (omega arith)
ascending_strict low (x ∷ xs) high i zero a lt l = absurd (omega arith)
ascending_strict low (x ∷ xs) high zero (suc j) a lt l = let up = has_within (suc x) (get_or xs j 0) xs high a.2 (item_has xs j 0 (omega arith)) in omega arith
ascending_strict low (x ∷ xs) high (suc i) (suc j) a lt l = ascending_strict (suc x) xs high i j a.2 (omega arith) (omega arith)

-- numbers of which no two places have the same
apart_by : (xs : List ℕ) → ((i j : ℕ) → i < length xs → j < length xs → slice_index xs i ≡ slice_index xs j → i ≡ j) → AreApart xs
apart_by xs one = at_apart xs (λ i j x a b.
    one i j (slice_get_within xs i x a) (slice_get_within xs j x b) (get_or_from_slice_get xs i x 0 a ∙ sym (get_or_from_slice_get xs j x 0 b)))

pub once_law : OnceLaw
once_law graph a job = apart_by (inputs_of graph job) (λ i j l m e. dite (dec_lt job (length graph))
    (λ within. apart i j l m e within (dec_lt i j) (dec_lt j i))
    (λ past. let none : inputs_of graph job ≡ [] = none_past graph job [] (λ q. past q) in let n : length (inputs_of graph job) ≡ 0 = ap length none in absurd (omega arith)))
  where
    apart : (i j : ℕ) → i < length (inputs_of graph job) → j < length (inputs_of graph job) → slice_index (inputs_of graph job) i ≡ slice_index (inputs_of graph job) j → job < length graph → Dec (i < j) → Dec (j < i) → i ≡ j
    apart i j l m e within (yes s) t = let r = ascending_strict 0 (inputs_of graph job) job i j (a.lower job within) s m in absurd (omega arith)
    apart i j l m e within (no s) (yes t) = let r = ascending_strict 0 (inputs_of graph job) job j i (a.lower job within) t l in absurd (omega arith)
    apart i j l m e within (no s) (no t) = omega arith

pub place_of : (xs : List ℕ) (x : ℕ) → has x xs ≡ true → (k : ℕ) × (k < length xs) × (slice_index xs k ≡ x)
place_of [] x h = absurd (cc)
place_of (y ∷ ys) x h = dite (ℕ_discrete x y)
    (λ e. (zero, omega arith, sym e))
    (λ n. let r = place_of ys x (sym (has_else x y ys n) ∙ h) in (suc r.0, omega arith, r.2))

pub place_law : PlaceLaw
place_law graph job input = (place_of (inputs_of graph job) input, λ p. subst (λ x. has x (inputs_of graph job) ≡ true) p.2 (item_has (inputs_of graph job) p.0 0 p.1))

ascends : (low : ℕ) (xs : List ℕ) (high : ℕ) → (0 < length xs → low ≤ slice_index xs 0) → ((k : ℕ) → k + 1 < length xs → slice_index xs k < slice_index xs (k + 1)) → ((k : ℕ) → k < length xs → slice_index xs k < high) → AreAscending low xs high
ascends low [] high f up below = tt
ascends low (x ∷ xs) high f up below = (
  f (omega arith),
  below 0 (omega arith),
  ascends (suc x) xs high (λ l. let r = up 0 (omega arith) in r) (λ k l. let e : suc k + 1 ≡ suc (k + 1) = omega arith in subst (λ n. slice_index (x ∷ xs) (suc k) < slice_index (x ∷ xs) n) e (up (suc k) (omega arith))) (λ k l. below (suc k) (omega arith)),
)

pub ascend_law : AscendLaw
ascend_law xs high up below = ascends 0 xs high (λ l. omega arith) up below

in_map : (f : ℕ → ℕ) (xs : List ℕ) (x : ℕ) → has x xs ≡ true → has (f x) (map f xs) ≡ true
in_map f [] x h = absurd (cc)
in_map f (y ∷ ys) x h = dite (ℕ_discrete (f x) (f y)) (λ e. has_here (f x) (f y) (map f ys) e)
    (λ n. has_else (f x) (f y) (map f ys) n ∙ in_map f ys x (sym (has_else x y ys (λ e. n (ap f e))) ∙ h))

of_map : (f : ℕ → ℕ) (xs : List ℕ) (y : ℕ) → has y (map f xs) ≡ true → (x : ℕ) × (has x xs ≡ true) × (f x ≡ y)
of_map f [] y h = absurd (cc)
of_map f (x ∷ xs) y h = dite (ℕ_discrete y (f x))
    (λ e. (x, has_here x x xs refl, sym e))
    (λ n. let r = of_map f xs y (sym (has_else y (f x) (map f xs) n) ∙ h) in
    (r.0, dite (ℕ_discrete r.0 x) (λ e. has_here r.0 x xs e) (λ m. has_else r.0 x xs m ∙ r.1), r.2))

pub over_law : OverLaw
over_law needed place cells graph count at listed waits = record {
  jobs = count;
  once = apart_by cells (λ i j l m e. sym (at i l) ∙ ap place e ∙ at j m);
  inputs = λ job input l m. (
    (λ w.
        let r = of_map place (needed (slice_index cells job)) input ((waits job input l).0 w) in
        let q = listed job r.0 l r.1 in
        let k : q.0 ≡ input = sym (at q.0 q.1) ∙ ap place q.2 ∙ r.2 in
        subst (λ x. has x (needed (slice_index cells job)) ≡ true) (sym q.2 ∙ ap (slice_index cells) k) r.1),
    (λ h. (waits job input l).1 (subst (λ x. has x (map place (needed (slice_index cells job))) ≡ true) (at input m) (in_map place (needed (slice_index cells job)) (slice_index cells input) h))),
  );
}
