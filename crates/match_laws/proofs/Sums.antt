-- Sums and counts over lists of numbers, and over lists with as many of each class.
use Rattle.std.proofs.Common.{◌≡◌, inl, inr, ℕ, zero, suc, ◌+◌, ◌<◌, ◌≤◌, ◌==◌, ltb, cond, Bool, true, List, [], ◌∷◌, ◌++◌, map, length, slice_index, refl, sym, subst, ◌∙◌, ap, arith}
use Rattle.base_laws.proofs.Tests.{same_truth}
use Rattle.std.proofs.lemmas.Bool.{cases_Bool, ne_eqb}
use Rattle.std.specs.List.{count_by, sum_by, flat_map}
use Rattle.std.specs.Cmp.{IsEquivalence}
use Rattle.std.specs.Bool.{Decides}
use Rattle.std.proofs.Math.Decide.{ℕ_discrete}
use Rattle.std.proofs.lemmas.List.Sums.{sum_by-cons, sum_by-append}
use Rattle.std.proofs.lemmas.Bool.Decides.{Decides-eqb, Decides-ltb, not_from_Decides}
use Rattle.plain_netlist.specs.Lists.{IsListed}
use Rattle.match_laws.specs.Circuits.{numbers_from, IsOneToOne}
use Rattle.round_laws.proofs.Agree.{count-cons, count_none}
use Rattle.round_laws.proofs.Solved.{count-has, cut, in_mid, here_mid, count-mid}

pub decided_equivalence : {X : Type 0} (same : X → X → Bool) → ((a b : X) → Decides (same a b) (a ≡ b)) → IsEquivalence same
decided_equivalence {X} same is = record {
  refl = λ a. (is a a).1 refl;
  symm = λ a b. same_truth (same a b) (same b a) (λ h. (is b a).1 (sym ((is a b).0 h))) (λ h. (is a b).1 (sym ((is b a).0 h)));
  congr = λ a b c h. ap (λ (x : X). same x c) ((is a b).0 h);
}

pub sum_same : {X : Type 0} (f g : X → ℕ) (xs : List X) → ((x : X) → IsListed x xs → f x ≡ g x) → sum_by f xs ≡ sum_by g xs
sum_same f g [] h = refl
sum_same f g (x ∷ xs) h =
    let a = sum_by-cons f x xs in
    let b = sum_by-cons g x xs in
    let here = h x (inl refl) in
    let rest = sum_same f g xs (λ y i. h y (inr i)) in
    omega arith

pub sum-map : {X Y : Type 0} (g : Y → ℕ) (h : X → Y) (xs : List X) → sum_by g (map h xs) ≡ sum_by (λ x. g (h x)) xs
sum-map g h [] = refl
sum-map g h (x ∷ xs) =
    let a = sum_by-cons g (h x) (map h xs) in
    let b = sum_by-cons (λ y. g (h y)) x xs in
    let rest = sum-map g h xs in
    omega arith

pub sum-flat : {X Y : Type 0} (g : Y → ℕ) (h : X → List Y) (xs : List X) → sum_by g (flat_map h xs) ≡ sum_by (λ x. sum_by g (h x)) xs
sum-flat g h [] = refl
sum-flat g h (x ∷ xs) =
    let a = sum_by-append g (h x) (flat_map h xs) in
    let b = sum_by-cons (λ y. sum_by g (h y)) x xs in
    let rest = sum-flat g h xs in
    omega arith

sum-mid : {X : Type 0} (g : X → ℕ) (us : List X) (y : X) (vs : List X) → sum_by g (us ++ y ∷ vs) ≡ g y + sum_by g (us ++ vs)
sum-mid g [] y vs = sum_by-cons g y vs
sum-mid g (u ∷ us) y vs =
    let a = sum_by-cons g u (us ++ y ∷ vs) in
    let b = sum_by-cons g u (us ++ vs) in
    let rest = sum-mid g us y vs in
    omega arith

less : {X : Type 0} (r : X → Bool) (x y : X) (xs us vs : List X) → r x ≡ r y → count_by r (x ∷ xs) ≡ count_by r (us ++ y ∷ vs) → count_by r xs ≡ count_by r (us ++ vs)
less r x y xs us vs e h =
    let a = count-cons r x xs in
    let b = count-mid r us y vs in
    let heads : ◌≡◌ {A = ℕ} (cond (r x) 1 0) (cond (r y) 1 0) = ap (λ (t : Bool). cond {A = ℕ} t 1 0) e in
    omega arith

-- where each class has as many in both lists, weights that are one on like items have one sum
pub matched_sums : {X : Type 0} (same : X → X → Bool) → IsEquivalence same → (q p : X → ℕ) (xs ys : List X)
    → ((c : X) → count_by (same c) xs ≡ count_by (same c) ys)
    → ((x y : X) → IsListed x xs → IsListed y ys → same x y ≡ true → q x ≡ p y)
    → sum_by q xs ≡ sum_by p ys
matched_sums same eq q p [] [] counts alike = refl
matched_sums same eq q p [] (y ∷ ys) counts alike =
    let one = count-has (same y) y (y ∷ ys) (inl refl) (eq.refl y) in
    let none = counts y in
    let nil : count_by (same y) [] ≡ 0 = refl in
    absurd (omega arith)
matched_sums {X} same eq q p (x ∷ xs) ys counts alike =
    let one = count-has (same x) x (x ∷ xs) (inl refl) (eq.refl x) in
    let there = counts x in
    let c = cut (same x) ys (omega arith) in
    let other : (d : X) → count_by (same d) xs ≡ count_by (same d) (c.before ++ c.behind)
    = λ d. less (same d) x c.item xs c.before c.behind (eq.symm d x ∙ (eq.congr x c.item d c.passes ∙ eq.symm c.item d))
    (counts d ∙ ap (count_by (same d)) c.is) in
    let rest : sum_by q xs ≡ sum_by p (c.before ++ c.behind)
    = matched_sums same eq q p xs (c.before ++ c.behind) other
    (λ a b i j h. alike a b (inr i) (subst (λ (l : List X). IsListed b l) (sym c.is) (in_mid b c.before c.item c.behind j)) h) in
    let head : q x ≡ p c.item = alike x c.item (inl refl) (subst (λ (l : List X). IsListed c.item l) (sym c.is) (here_mid c.before c.item c.behind)) c.passes in
    let left = sum_by-cons q x xs in
    let right = sum-mid p c.before c.item c.behind in
    let whole : sum_by p ys ≡ sum_by p (c.before ++ c.item ∷ c.behind) = ap (sum_by p) c.is in
    omega arith

-- numbers
pub in_numbers : (k a n : ℕ) → IsListed k (numbers_from a n) → (a ≤ k) × (k < a + n)
in_numbers k a zero i = absurd i
in_numbers k a (suc n) (inl e) = (omega arith, omega arith)
in_numbers k a (suc n) (inr i) = let h = in_numbers k (suc a) n i in let low = h.0 in let high = h.1 in (omega arith, omega arith)

pub numbers_has : (k a n : ℕ) → a ≤ k → k < a + n → IsListed k (numbers_from a n)
numbers_has k a zero low high = absurd (omega arith)
numbers_has k a (suc n) low high =
    elim (ℕ_discrete k a) [
      | yes e ↦ inl e
      | no not ↦ inr (numbers_has k (suc a) n (omega (arith, not)) (omega arith))
    ]

pub number_once : (k a n : ℕ) → a ≤ k → k < a + n → count_by (λ x. k == x) (numbers_from a n) ≡ 1
number_once k a zero low high = absurd (omega arith)
number_once k a (suc n) low high =
    let step = count-cons (λ x. k == x) a (numbers_from (suc a) n) in
    elim (ℕ_discrete k a) [
      | yes e ↦
          let here : ◌≡◌ {A = ℕ} (cond (k == a) 1 0) 1 = ap (λ (t : Bool). cond {A = ℕ} t 1 0) ((Decides-eqb k a).1 e) in
          let rest = count_none (λ x. k == x) (numbers_from (suc a) n) (λ x i. ne_eqb k x (let h = in_numbers x (suc a) n i in let low = h.0 in λ same. omega arith)) in
          omega arith
      | no not ↦
          let here : ◌≡◌ {A = ℕ} (cond (k == a) 1 0) 0 = ap (λ (t : Bool). cond {A = ℕ} t 1 0) (ne_eqb k a not) in
          let rest = number_once k (suc a) n (omega (arith, not)) (omega arith) in
          omega arith
    ]

sum-shift : (h : ℕ → ℕ) (a n : ℕ) → sum_by h (numbers_from (suc a) n) ≡ sum_by (λ i. h (suc i)) (numbers_from a n)
sum-shift h a zero = refl
sum-shift h a (suc n) =
    let l = sum_by-cons h (suc a) (numbers_from (suc (suc a)) n) in
    let r = sum_by-cons (λ i. h (suc i)) a (numbers_from (suc a) n) in
    let rest = sum-shift h (suc a) n in
    omega arith

sum_at : (g : ℕ → ℕ) (xs : List ℕ) → sum_by g xs ≡ sum_by (λ i. g (slice_index xs i)) (numbers_from 0 (length xs))
sum_at g [] = refl
sum_at g (x ∷ xs) =
    let l = sum_by-cons g x xs in
    let r = sum_by-cons (λ i. g (slice_index (x ∷ xs) i)) 0 (numbers_from 1 (length xs)) in
    let s = sum-shift (λ i. g (slice_index (x ∷ xs) i)) 0 (length xs) in
    let rest = sum_at g xs in
    omega arith

pub listed_index : (xs : List ℕ) (i : ℕ) → i < length xs → IsListed (slice_index xs i) xs
listed_index [] i h = absurd (omega arith)
listed_index (x ∷ xs) zero h = inl refl
listed_index (x ∷ xs) (suc i) h = inr (listed_index xs i (omega arith))

-- a list that is one to one goes over all numbers
pub onto_sum : (xs : List ℕ) (m n : ℕ) → IsOneToOne xs m n → (g : ℕ → ℕ) → sum_by g (numbers_from 0 n) ≡ sum_by (λ i. g (slice_index xs i)) (numbers_from 0 m)
onto_sum xs m n one g =
    let eq : IsEquivalence (λ (x y : ℕ). x == y) = decided_equivalence (λ (x y : ℕ). x == y) Decides-eqb in
    sym (matched_sums (λ (x y : ℕ). x == y) eq g g xs (numbers_from 0 n) (counted xs m n one) (λ x y i j h. ap g ((Decides-eqb x y).0 h)))
    ∙ (sum_at g xs ∙ ap (λ (l : ℕ). sum_by (λ i. g (slice_index xs i)) (numbers_from 0 l)) one.count)
  where
    counted : (xs : List ℕ) (m n : ℕ) → IsOneToOne xs m n → (c : ℕ) → count_by (λ x. c == x) xs ≡ count_by (λ x. c == x) (numbers_from 0 n)
    counted xs m n one c = elim (cases_Bool (ltb c n)) [
      | inl r ↦ let low : c < n = (Decides-ltb c n).0 r in one.once c low ∙ sym (number_once c 0 n (omega arith) (omega arith))
      | inr r ↦ let high : n ≤ c = omega (arith, not_from_Decides _ (Decides-ltb c n) r) in count_none (λ x. c == x) xs (λ x i. ne_eqb c x (λ e. let b = one.below x i in omega arith))
          ∙ sym (count_none (λ x. c == x) (numbers_from 0 n) (λ x i. ne_eqb c x (λ e. let b = in_numbers x 0 n i in let t = b.1 in omega arith)))
    ]

pub index_below : (xs : List ℕ) (m n i : ℕ) → IsOneToOne xs m n → i < m → slice_index xs i < n
index_below xs m n i one h = let c = one.count in one.below (slice_index xs i) (listed_index xs i (omega arith))

index_once : (xs : List ℕ) (v i j : ℕ) → count_by (λ x. v == x) xs ≡ 1 → i < length xs → j < length xs → slice_index xs i ≡ v → slice_index xs j ≡ v → i ≡ j
index_once [] v i j one a b p q = absurd (omega arith)
index_once (x ∷ xs) v zero zero one a b p q = refl
index_once (x ∷ xs) v zero (suc j) one a b p q =
    let step = count-cons (λ y. v == y) x xs in
    let here : ◌≡◌ {A = ℕ} (cond (v == x) 1 0) 1 = ap (λ (t : Bool). cond {A = ℕ} t 1 0) ((Decides-eqb v x).1 (sym p)) in
    let rest = count-has (λ y. v == y) (slice_index xs j) xs (listed_index xs j (omega arith)) ((Decides-eqb v (slice_index xs j)).1 (sym q)) in
    absurd (omega arith)
index_once (x ∷ xs) v (suc i) zero one a b p q =
    let step = count-cons (λ y. v == y) x xs in
    let here : ◌≡◌ {A = ℕ} (cond (v == x) 1 0) 1 = ap (λ (t : Bool). cond {A = ℕ} t 1 0) ((Decides-eqb v x).1 (sym q)) in
    let rest = count-has (λ y. v == y) (slice_index xs i) xs (listed_index xs i (omega arith)) ((Decides-eqb v (slice_index xs i)).1 (sym p)) in
    absurd (omega arith)
index_once (x ∷ xs) v (suc i) (suc j) one a b p q =
    let step = count-cons (λ y. v == y) x xs in
    let rest = count-has (λ y. v == y) (slice_index xs i) xs (listed_index xs i (omega arith)) ((Decides-eqb v (slice_index xs i)).1 (sym p)) in
    ap suc (index_once xs v i j (omega arith) (omega arith) (omega arith) p q)

pub index_one : (xs : List ℕ) (m n i j : ℕ) → IsOneToOne xs m n → i < m → j < m → slice_index xs i ≡ slice_index xs j → i ≡ j
index_one xs m n i j one a b e =
    let c = one.count in
    index_once xs (slice_index xs i) i j (one.once (slice_index xs i) (index_below xs m n i one a)) (omega arith) (omega arith) refl (sym e)

pub map_has : {X Y : Type 0} (h : X → Y) (x : X) (xs : List X) → IsListed x xs → IsListed (h x) (map h xs)
map_has h x [] i = absurd i
map_has h x (y ∷ ys) (inl e) = inl (ap h e)
map_has h x (y ∷ ys) (inr i) = inr (map_has h x ys i)

pub in_map : {X Y : Type 0} (h : X → Y) (y : Y) (xs : List X) → IsListed y (map h xs) → (x : X) × IsListed x xs × (y ≡ h x)
in_map h y [] i = absurd i
in_map h y (x ∷ xs) (inl e) = (x, inl refl, e)
in_map h y (x ∷ xs) (inr i) = let f = in_map h y xs i in (f.0, inr f.1, f.2)

-- each number below is in a list that is one to one
index_of : (xs : List ℕ) (j : ℕ) → 1 ≤ count_by (λ x. j == x) xs → (i : ℕ) × (i < length xs) × (slice_index xs i ≡ j)
index_of [] j h = absurd (omega arith)
index_of (x ∷ xs) j h = elim (cases_Bool (j == x)) [
  | inl r ↦ (0, omega arith, sym ((Decides-eqb j x).0 r))
  | inr r ↦
      let step = count-cons (λ y. j == y) x xs in
      let none : ◌≡◌ {A = ℕ} (cond (j == x) 1 0) 0 = ap (λ (t : Bool). cond {A = ℕ} t 1 0) r in
      let f = index_of xs j (omega arith) in
      let low = f.1 in
      (suc f.0, omega arith, f.2)
]

pub index_found : (xs : List ℕ) (m n j : ℕ) → IsOneToOne xs m n → j < n → (i : ℕ) × (i < m) × (slice_index xs i ≡ j)
index_found xs m n j one h =
    let once = one.once j h in
    let f = index_of xs j (omega arith) in
    let low = f.1 in
    let c = one.count in
    (f.0, omega arith, f.2)
