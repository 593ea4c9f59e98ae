-- How many of the first nodes are of a class, before and after some nodes became a class.
use Rattle.std.proofs.Common.{◌≡◌, ◌≢◌, inl, inr, ◌<◌, ◌≤◌, ◌+◌, ◌==◌, ◌||◌, ◌&&◌, ℕ, suc, Bool, true, false, cond, count_by, nat_lt, not, List, [], ◌∷◌, length, slice_index, take, refl, sym, ◌∙◌, ap, arith, true≢false}
use Rattle.std.proofs.lemmas.Bool.{cases_Bool, or_cases, false_from_ne_true, ne_eqb, eq-eqb}
use Rattle.std.specs.List.{list_any}
use Rattle.std.proofs.lemmas.Bool.Decides.{Decides-eqb, Decides-ltb}
use Rattle.plain_netlist.specs.Lists.{IsListed}
use Rattle.round_laws.proofs.Agree.{count-cons, count_same, count_none}
use Rattle.round_laws.proofs.Fast.{count_split}
use Rattle.match_laws.specs.Circuits.{numbers_from}
use Rattle.match_laws.proofs.Sums.{in_numbers, number_once}
use Rattle.match_rounds.specs.Order.{is_among}
use Rattle.match_rounds.specs.Classes.{members}

in_list : List ℕ → ℕ → Bool
in_list xs a = list_any (λ x. x == a) xs

pub any_index : (xs : List ℕ) (a : ℕ) → list_any (λ x. x == a) xs ≡ true → (i : ℕ) × (i < length xs) × (slice_index xs i ≡ a)
any_index [] a h = absurd (true≢false (sym h))
any_index (x ∷ xs) a h = elim (or_cases (x == a) (list_any (λ x. x == a) xs) h) [
  | inl e ↦ (0, omega arith, (Decides-eqb x a).0 e)
  | inr r ↦ let g = any_index xs a r in let l = g.1 in (suc g.0, omega arith, g.2)
]

IsApart : List ℕ → Type 0
IsApart xs = (i j : ℕ) → i < length xs → j < i → slice_index xs j ≢ slice_index xs i

pub rest_apart : (x : ℕ) (xs : List ℕ) → ((i j : ℕ) → i < length (x ∷ xs) → j < i → slice_index (x ∷ xs) j ≢ slice_index (x ∷ xs) i) → (i j : ℕ) → i < length xs → j < i → slice_index xs j ≢ slice_index xs i
rest_apart x xs h i j l m = h (suc i) (suc j) (omega arith) (omega arith)

pub first_apart : (x : ℕ) (xs : List ℕ) → ((i j : ℕ) → i < length (x ∷ xs) → j < i → slice_index (x ∷ xs) j ≢ slice_index (x ∷ xs) i) → list_any (λ y. y == x) xs ≡ false
first_apart x xs h = false_from_ne_true (list_any (λ y. y == x) xs) (λ t. let g = any_index xs x t in let l = g.1 in h (suc g.0) 0 (omega arith) (omega arith) (sym g.2))

one_at : (x m : ℕ) → count_by (λ a. x == a) (numbers_from 0 m) ≡ cond (nat_lt x m) 1 0
one_at x m = elim (cases_Bool (nat_lt x m)) [
  | inl t ↦ number_once x 0 m (omega arith) (let l = (Decides-ltb x m).0 t in omega arith) ∙ sym (ap (λ (b : Bool). cond {A = ℕ} b 1 0) t)
  | inr t ↦
      let not_below : (a : ℕ) → IsListed a (numbers_from 0 m) → (x == a) ≡ false = λ a i. let b = in_numbers a 0 m i in let hi = b.1 in
      false_from_ne_true (x == a) (λ e. let s : x ≡ a = (Decides-eqb x a).0 e in let l : x < m = omega (arith, s, hi) in true≢false (sym ((Decides-ltb x m).1 l) ∙ t)) in
      count_none (λ a. x == a) (numbers_from 0 m) not_below ∙ sym (ap (λ (b : Bool). cond {A = ℕ} b 1 0) t)
]

or_sum : (a b : Bool) → (a ≡ true → b ≡ false) → ◌≡◌ {A = ℕ} (cond (a || b) 1 0) (cond a 1 0 + cond b 1 0)
or_sum true true h = absurd (true≢false (h refl))
or_sum true false h = refl
or_sum false true h = refl
or_sum false false h = refl

-- distinct nodes, counted among the first m numbers
pub listed_count : (xs : List ℕ) (m : ℕ) → ((i j : ℕ) → i < length xs → j < i → slice_index xs j ≢ slice_index xs i)
    → count_by (λ a. list_any (λ x. x == a) xs) (numbers_from 0 m) ≡ count_by (λ a. nat_lt a m) xs
listed_count [] m h = count_none (λ a. list_any (λ x. x == a) []) (numbers_from 0 m) (λ a i. refl)
listed_count (x ∷ xs) m h =
    let split = count_split (λ a. (x == a) || list_any (λ y. y == a) xs) (λ a. x == a) (λ a. list_any (λ y. y == a) xs) (numbers_from 0 m)
    (λ a i. or_sum (x == a) (list_any (λ y. y == a) xs) (λ e. ap (λ (z : ℕ). list_any (λ y. y == z) xs) (sym ((Decides-eqb x a).0 e)) ∙ first_apart x xs h)) in
    split ∙ (ap (λ (k : ℕ). k + count_by (λ a. list_any (λ y. y == a) xs) (numbers_from 0 m)) (one_at x m)
    ∙ (ap (λ (k : ℕ). cond (nat_lt x m) 1 0 + k) (listed_count xs m (rest_apart x xs h)) ∙ sym (count-cons (λ a. nat_lt a m) x xs)))

take_all : (xs : List ℕ) → take (length xs) xs ≡ xs
take_all [] = refl
take_all (x ∷ xs) = ap (λ (ys : List ℕ). x ∷ ys) (take_all xs)

pub among_count : (xs : List ℕ) (m : ℕ) → ((i j : ℕ) → i < length xs → j < i → slice_index xs j ≢ slice_index xs i)
    → count_by (λ a. is_among xs (length xs) a) (numbers_from 0 m) ≡ count_by (λ a. nat_lt a m) xs
among_count xs m h = ap (λ (ys : List ℕ). count_by (λ a. list_any (λ x. x == a) ys) (numbers_from 0 m)) (take_all xs) ∙ listed_count xs m h

-- all of them are below a bound
pub all_below : (xs : List ℕ) (n : ℕ) → ((i : ℕ) → i < length xs → slice_index xs i < n) → count_by (λ a. nat_lt a n) xs ≡ length xs
all_below [] n h = refl
all_below (x ∷ xs) n h =
    let l = h 0 (omega arith) in
    let rest = all_below xs n (λ i k. h (suc i) (omega arith)) in
    let yes : nat_lt x n ≡ true = (Decides-ltb x n).1 l in
    count-cons (λ a. nat_lt a n) x xs ∙ (ap (λ (b : Bool). cond {A = ℕ} b 1 0 + count_by (λ a. nat_lt a n) xs) yes ∙ omega arith)

-- where nodes became class f of the classes old
pub record IsNew (old new : List ℕ) (among : ℕ → Bool) (f w n : ℕ) : Type 0 where
  pub is : (a : ℕ) → a < n → slice_index new a ≡ cond {A = ℕ} (among a) f (slice_index old a)
  pub fresh : (a : ℕ) → a < n → slice_index old a ≢ f
  pub whole : (a : ℕ) → a < n → among a ≡ true → slice_index old a ≡ w
  pub other : w ≢ f

-- the new class has those
pub new_members : (old new : List ℕ) (among : ℕ → Bool) (f w n m : ℕ) → IsNew old new among f w n → m ≤ n → members new f m ≡ count_by among (numbers_from 0 m)
new_members old new among f w n m h l = count_same (λ a. f == slice_index new a) among (numbers_from 0 m) (λ a i.
    let b = in_numbers a 0 m i in let hi = b.1 in
    let is = h.is a (omega arith) in
    elim (cases_Bool (among a)) [
      | inl t ↦ eq-eqb f (slice_index new a) (sym (is ∙ ap (λ (b : Bool). cond {A = ℕ} b f (slice_index old a)) t)) ∙ sym t
      | inr t ↦ ne_eqb f (slice_index new a) (λ e. h.fresh a (omega arith) (sym (e ∙ (is ∙ ap (λ (b : Bool). cond {A = ℕ} b f (slice_index old a)) t)))) ∙ sym t
    ])

-- the whole had them too
pub old_members : (old new : List ℕ) (among : ℕ → Bool) (f w n m : ℕ) → IsNew old new among f w n → m ≤ n → members old w m ≡ members new w m + count_by among (numbers_from 0 m)
old_members old new among f w n m h l = count_split (λ a. w == slice_index old a) (λ a. w == slice_index new a) among (numbers_from 0 m) (λ a i.
    let b = in_numbers a 0 m i in let hi = b.1 in
    let is = h.is a (omega arith) in
    elim (cases_Bool (among a)) [
      | inl t ↦
          let o : (w == slice_index old a) ≡ true = eq-eqb w (slice_index old a) (sym (h.whole a (omega arith) t)) in
          let v : (w == slice_index new a) ≡ false = ne_eqb w (slice_index new a) (λ e. h.other (e ∙ (is ∙ ap (λ (b : Bool). cond {A = ℕ} b f (slice_index old a)) t))) in
          ones (w == slice_index old a) (w == slice_index new a) (among a) o v t
      | inr t ↦
          let v : (w == slice_index new a) ≡ (w == slice_index old a) = ap (λ (x : ℕ). w == x) (is ∙ ap (λ (b : Bool). cond {A = ℕ} b f (slice_index old a)) t) in
          same (w == slice_index old a) (w == slice_index new a) (among a) v t
    ])
  where
    ones : (a b c : Bool) → a ≡ true → b ≡ false → c ≡ true → ◌≡◌ {A = ℕ} (cond a 1 0) (cond b 1 0 + cond c 1 0)
    ones true false true x y z = refl
    ones true false false x y z = absurd (true≢false (sym z))
    ones true true c x y z = absurd (true≢false y)
    ones false b c x y z = absurd (true≢false (sym x))

    same : (a b c : Bool) → b ≡ a → c ≡ false → ◌≡◌ {A = ℕ} (cond a 1 0) (cond b 1 0 + cond c 1 0)
    same a b true x z = absurd (true≢false z)
    same true true false x z = refl
    same false false false x z = refl
    same true false false x z = absurd (true≢false (sym x))
    same false true false x z = absurd (true≢false x)

-- and each other class is what it was
pub rest_members : (old new : List ℕ) (among : ℕ → Bool) (f w n m d : ℕ) → IsNew old new among f w n → m ≤ n → d ≢ w → d ≢ f → members new d m ≡ members old d m
rest_members old new among f w n m d h l nw nf = count_same (λ a. d == slice_index new a) (λ a. d == slice_index old a) (numbers_from 0 m) (λ a i.
    let b = in_numbers a 0 m i in let hi = b.1 in
    let is = h.is a (omega arith) in
    elim (cases_Bool (among a)) [
      | inl t ↦ ne_eqb d (slice_index new a) (λ e. nf (e ∙ (is ∙ ap (λ (b : Bool). cond {A = ℕ} b f (slice_index old a)) t)))
          ∙ sym (ne_eqb d (slice_index old a) (λ e. nw (e ∙ h.whole a (omega arith) t)))
      | inr t ↦ ap (λ (x : ℕ). d == x) (is ∙ ap (λ (b : Bool). cond {A = ℕ} b f (slice_index old a)) t)
    ])

-- what passes the narrower test is no more
pub fewer : {X : Type 0} (p q : X → Bool) (xs : List X) → ((x : X) → IsListed x xs → p x ≡ true → q x ≡ true) → count_by p xs ≤ count_by q xs
fewer p q xs h =
    let s = count_split q p (λ x. q x && not (p x)) xs (λ x i. parts (p x) (q x) (h x i)) in
    omega arith
  where
    parts : (a b : Bool) → (a ≡ true → b ≡ true) → ◌≡◌ {A = ℕ} (cond b 1 0) (cond a 1 0 + cond (b && not a) 1 0)
    parts true true h = refl
    parts true false h = absurd (true≢false (sym (h refl)))
    parts false true h = refl
    parts false false h = refl
