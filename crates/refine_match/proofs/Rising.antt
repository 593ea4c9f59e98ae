-- Lists in the order of a rank, and what of them lies behind a place.
use Rattle.std.proofs.Common.{◌≡◌, inl, inr, ◌<◌, ◌≤◌, ℕ, zero, suc, Bool, true, false, cond, List, [], ◌∷◌, ◌++◌, filter, map, nat_lt, refl, sym, subst, ◌∙◌, ap, arith}
use Rattle.std.proofs.lemmas.Bool.{cases_Bool, false_from_ne_true}
use Rattle.std.proofs.lemmas.Bool.Decides.{Decides-ltb}
use Rattle.plain_netlist.specs.Lists.{IsListed}
use Rattle.round_laws.proofs.Guesses.{of_filter}
use Rattle.round_laws.proofs.Stable.{in_either}
use Rattle.match_laws.specs.Circuits.{numbers_from}
use Rattle.match_laws.proofs.Sums.{in_numbers, map_has}

-- each stands before all behind it
abbrev pub IsRising : {X : Type 0} → (X → ℕ) → List X → Type 0
IsRising f [] = Unit {0}
IsRising {X} f (x ∷ xs) = ((y : X) → IsListed y xs → f x < f y) × IsRising f xs

pub yes_first : {X : Type 0} (q : X → Bool) (y : X) (ys : List X) → q y ≡ true → filter q (y ∷ ys) ≡ y ∷ filter q ys
yes_first q y ys t = ap (λ (b : Bool). cond b (y ∷ filter q ys) (filter q ys)) t

pub no_first : {X : Type 0} (q : X → Bool) (y : X) (ys : List X) → q y ≡ false → filter q (y ∷ ys) ≡ filter q ys
no_first q y ys t = ap (λ (b : Bool). cond b (y ∷ filter q ys) (filter q ys)) t

pub filter_passes : {X : Type 0} (q : X → Bool) (x : X) (xs : List X) → IsListed x (filter q xs) → q x ≡ true
filter_passes q x [] i = absurd i
filter_passes q x (y ∷ ys) i = elim (cases_Bool (q y)) [
  | inl t ↦ elim (subst (IsListed x) (yes_first q y ys t) i) [
    | inl e ↦ ap q e ∙ t
    | inr j ↦ filter_passes q x ys j
  ]
  | inr f ↦ filter_passes q x ys (subst (IsListed x) (no_first q y ys f) i)
]

-- numbers rise
pub numbered : {X : Type 0} (f : X → ℕ) (xs : List X) (m n : ℕ) → map f xs ≡ numbers_from m n → IsRising f xs
numbered f [] m n e = tt
numbered f (x ∷ xs) m zero e = absurd cc
numbered f (x ∷ xs) m (suc n) e =
    let head : f x ≡ m = cc in
    let rest : map f xs ≡ numbers_from (suc m) n = cc in
    ((λ y i. let b = in_numbers (f y) (suc m) n (subst (IsListed (f y)) rest (map_has f y xs i)) in let lo = b.0 in omega arith), numbered f xs (suc m) n rest)

-- some of them rise, by each rank that keeps their order
pub filtered : {X : Type 0} (f g : X → ℕ) (q : X → Bool) (xs : List X) → IsRising f xs → ((x y : X) → IsListed x xs → IsListed y xs → q x ≡ true → q y ≡ true → f x < f y → g x < g y) → IsRising g (filter q xs)
filtered f g q [] h up = tt
filtered {X} f g q (x ∷ xs) h up = elim (cases_Bool (q x)) [
  | inl t ↦ subst (IsRising g) (sym (yes_first q x xs t))
      ((λ y i. up x y (inl refl) (inr (of_filter q y xs i)) t (filter_passes q y xs i) (h.0 y (of_filter q y xs i))), filtered f g q xs h.1 (λ a b i j s u l. up a b (inr i) (inr j) s u l))
  | inr t ↦ subst (IsRising g) (sym (no_first q x xs t)) (filtered f g q xs h.1 (λ a b i j s u l. up a b (inr i) (inr j) s u l))
]

pub joined : {X : Type 0} (f : X → ℕ) (xs ys : List X) → IsRising f xs → IsRising f ys → ((x y : X) → IsListed x xs → IsListed y ys → f x < f y) → IsRising f (xs ++ ys)
joined f [] ys h g l = g
joined f (x ∷ xs) ys h g l = (
  (λ y i. elim (in_either y xs ys i) [ inl j ↦ h.0 y j | inr j ↦ l x y (inl refl) j ]),
  joined f xs ys h.1 g (λ a b i j. l a b (inr i) j),
)

-- where none passes, or all do
pub none_pass : {X : Type 0} (q : X → Bool) (xs : List X) → ((x : X) → IsListed x xs → q x ≡ true → ⊥) → filter q xs ≡ []
none_pass q [] h = refl
none_pass q (x ∷ xs) h = no_first q x xs (false_from_ne_true (q x) (λ t. h x (inl refl) t)) ∙ none_pass q xs (λ y i. h y (inr i))

all_pass : {X : Type 0} (q : X → Bool) (xs : List X) → ((x : X) → IsListed x xs → q x ≡ true) → filter q xs ≡ xs
all_pass q [] h = refl
all_pass {X} q (x ∷ xs) h = yes_first q x xs (h x (inl refl)) ∙ ap (λ (ys : List X). x ∷ ys) (all_pass q xs (λ y i. h y (inr i)))

-- the first that lies behind a place, and what lies behind it
pub head_is : {X : Type 0} (f : X → ℕ) (q : ℕ → Bool) (b : X) (xs : List X) → IsRising f xs → IsListed b xs → q (f b) ≡ true → ((m n : ℕ) → m ≤ n → q m ≡ true → q n ≡ true)
    → ((y : X) → IsListed y xs → q (f y) ≡ true → f b ≤ f y) → filter (λ y. q (f y)) xs ≡ b ∷ filter (λ y. nat_lt (f b) (f y)) xs
head_is f q b [] h i t up least = absurd i
head_is {X} f q b (x ∷ xs) h (inl e) t up least =
    let here : q (f x) ≡ true = ap (λ (y : X). q (f y)) (sym e) ∙ t in
    let not_it : nat_lt (f b) (f x) ≡ false = false_from_ne_true (nat_lt (f b) (f x)) (λ s. let l = (Decides-ltb (f b) (f x)).0 s in let same = ap f e in omega arith) in
    let all = all_pass (λ y. q (f y)) xs (λ y j. let l = h.0 y j in up (f x) (f y) (omega arith) here) in
    let rest = all_pass (λ y. nat_lt (f b) (f y)) xs (λ y j. let l = h.0 y j in let same = ap f e in (Decides-ltb (f b) (f y)).1 (omega arith)) in
    yes_first (λ y. q (f y)) x xs here ∙ (ap (λ (ys : List X). x ∷ ys) all ∙ (ap (λ (y : X). y ∷ xs) (sym e) ∙ ap (λ (ys : List X). b ∷ ys) (sym rest ∙ sym (no_first (λ y. nat_lt (f b) (f y)) x xs not_it))))
head_is {X} f q b (x ∷ xs) h (inr i) t up least =
    let l = h.0 b i in
    let not_here : q (f x) ≡ false = false_from_ne_true (q (f x)) (λ s. let m = least x (inl refl) s in omega arith) in
    let not_behind : nat_lt (f b) (f x) ≡ false = false_from_ne_true (nat_lt (f b) (f x)) (λ s. let m = (Decides-ltb (f b) (f x)).0 s in omega arith) in
    no_first (λ y. q (f y)) x xs not_here
    ∙ (head_is f q b xs h.1 i t up (λ y j s. least y (inr j) s) ∙ ap (λ (ys : List X). b ∷ ys) (sym (no_first (λ y. nat_lt (f b) (f y)) x xs not_behind)))
