-- Lists of lists, entry by entry.
use Rattle.std.proofs.Common.{◌≡◌, ℕ, zero, suc, ◌+◌, ◌<◌, ◌≤◌, List, [], ◌∷◌, ◌++◌, Some, None, map, slice_get, get_or, length, refl, ap, arith}
use Rattle.base_laws.proofs.Lists.{map_count}
use Rattle.std.proofs.lemmas.List.{get_or_past}

pub get_push : {A : Type 0} (xs : List A) (x o : A) (k : ℕ) (P : ℕ → A → Type 0) → ((j : ℕ) → j < length xs → P j (get_or xs j o)) → P (length xs) x → k < length xs + 1 → P k (get_or (xs ++ x ∷ []) k o)
get_push [] x o zero P f here lt = here
get_push [] x o (suc k) P f here lt = absurd (omega arith)
get_push (y ∷ xs) x o zero P f here lt = f 0 (omega arith)
get_push {A} (y ∷ xs) x o (suc k) P f here lt = get_push xs x o k (λ j v. P (suc j) v) (λ j less. f (suc j) (omega arith)) here (omega arith)

pub get_past : {A B : Type 0} (f : A → B) (xs : List A) (k : ℕ) (o : B) → length xs ≤ k → get_or (map f xs) k o ≡ o
get_past f xs k o le = let h = map_count f xs in get_or_past (map f xs) k o (omega (arith, h))

pub long_push : {A : Type 0} (xs : List A) (x : A) → length (xs ++ x ∷ []) ≡ length xs + 1
long_push [] x = refl
long_push (y ∷ xs) x = let h = long_push xs x in omega (arith, h)

pub none_push : {A : Type 0} (xs : List (List A)) → ((k : ℕ) → get_or xs k [] ≡ []) → (k : ℕ) → get_or (xs ++ [] ∷ []) k [] ≡ []
none_push [] f zero = refl
none_push [] f (suc k) = refl
none_push (x ∷ xs) f zero = f 0
none_push (x ∷ xs) f (suc k) = none_push xs (λ j. f (suc j)) k

pub got_some : {A B : Type 0} (f : A → B) (xs : List A) (k : ℕ) (x : A) (o : B) → slice_get xs k ≡ Some x → get_or (map f xs) k o ≡ f x
got_some f [] k x o h = cc
got_some f (y ∷ xs) zero x o h = ap f (let e : Some y ≡ Some x = h in let g : y ≡ x = cc in g)
got_some f (y ∷ xs) (suc k) x o h = got_some f xs k x o h

pub got_none : {A B : Type 0} (f : A → B) (xs : List A) (k : ℕ) (o : B) → slice_get xs k ≡ None → get_or (map f xs) k o ≡ o
got_none f [] k o h = refl
got_none f (y ∷ xs) zero o h = absurd (let e : Some y ≡ None = h in let z : ⊥ = cc in z)
got_none f (y ∷ xs) (suc k) o h = got_none f xs k o h

pub any_default : {A : Type 0} (xs : List A) (k : ℕ) (a b : A) → k < length xs → get_or xs k a ≡ get_or xs k b
any_default [] k a b lt = absurd (omega arith)
any_default (x ∷ xs) zero a b lt = refl
any_default (x ∷ xs) (suc k) a b lt = any_default xs k a b (omega arith)
