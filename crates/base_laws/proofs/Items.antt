-- Lemmas on the items of a list by their places.
use Rattle.std.proofs.Common.{◌≡◌, ◌⊎◌, inl, inr, ℕ, zero, suc, ◌<◌, List, [], ◌∷◌, ◌++◌, Option, Some, map, length, slice_get, refl, ◌∙◌, ap, arith}
use Rattle.std.specs.Option.{option_map}
use Rattle.std.proofs.lemmas.Option.{none-some, same_Some, slice_get-map}

pub one_entry : {A : Type 0} (o : Option A) (a b : A) → o ≡ Some a → o ≡ Some b → a ≡ b
one_entry o a b h g = cc

pub item_at : {A : Type 0} (xs : List A) (k : ℕ) → k < length xs → (x : A) × (slice_get xs k ≡ Some x)
item_at [] k lt = absurd (omega (arith, lt))
item_at (x ∷ xs) zero lt = (x, refl)
item_at (x ∷ xs) (suc k) lt = item_at xs k (omega (arith, lt))

pub get_last : {A : Type 0} (xs : List A) (x : A) → slice_get (xs ++ x ∷ []) (length xs) ≡ Some x
get_last [] x = refl
get_last (y ∷ xs) x = get_last xs x

pub get_left : {A : Type 0} (xs ys : List A) (i : ℕ) (x : A) → slice_get xs i ≡ Some x → slice_get (xs ++ ys) i ≡ Some x
get_left [] ys i x h = cc
get_left (y ∷ xs) ys zero x h = h
get_left (y ∷ xs) ys (suc i) x h = get_left xs ys i x h

pub get_front : {A : Type 0} (xs ys : List A) (k : ℕ) → k < length xs → slice_get (xs ++ ys) k ≡ slice_get xs k
get_front [] ys k h = absurd (omega (arith, h))
get_front (x ∷ xs) ys zero h = refl
get_front (x ∷ xs) ys (suc k) h = get_front xs ys k (omega (arith, h))

pub push_old : {A : Type 0} (xs : List A) (x u : A) (k : ℕ) → slice_get xs k ≡ Some u → slice_get (xs ++ x ∷ []) k ≡ Some u
push_old [] x u k e = absurd (none-some u e)
push_old (y ∷ xs) x u zero e = e
push_old (y ∷ xs) x u (suc k) e = push_old xs x u k e

-- an item behind a push is an old one, or the one that was pushed
pub push_cases : {A : Type 0} (xs : List A) (x y : A) (k : ℕ) → slice_get (xs ++ x ∷ []) k ≡ Some y → (slice_get xs k ≡ Some y) ⊎ ((k ≡ length xs) × (x ≡ y))
push_cases [] x y zero e = inr (refl, let k : x ≡ y = cc in k)
push_cases [] x y (suc k) e = absurd (let z : ⊥ = cc in z)
push_cases (z ∷ xs) x y zero e = inl e
push_cases (z ∷ xs) x y (suc k) e = elim (push_cases xs x y k e) [ inl h ↦ inl h | inr h ↦ inr (ap suc h.0, h.1) ]

pub map_to : {A B : Type 0} (f : A → B) (xs : List A) (k : ℕ) (x : A) → slice_get xs k ≡ Some x → slice_get (map f xs) k ≡ Some (f x)
map_to f xs k x e = slice_get-map f xs k ∙ ap (option_map f) e

-- an item of a mapped list is that of an item
pub map_from : {A B : Type 0} (f : A → B) (xs : List A) (k : ℕ) (y : B) → slice_get (map f xs) k ≡ Some y → (x : A) × (slice_get xs k ≡ Some x) × (f x ≡ y)
map_from f [] k y e = absurd (none-some y e)
map_from f (x ∷ xs) zero y e = (x, refl, same_Some (f x) y e)
map_from f (x ∷ xs) (suc k) y e = map_from f xs k y e

pub one_list : {A : Type 0} (xs ys : List A) → length xs ≡ length ys → ((k : ℕ) (x y : A) → slice_get xs k ≡ Some x → slice_get ys k ≡ Some y → x ≡ y) → xs ≡ ys
one_list [] [] e h = refl
one_list (x ∷ xs) [] e h = absurd (omega (arith, e))
one_list [] (y ∷ ys) e h = absurd (omega (arith, e))
one_list (x ∷ xs) (y ∷ ys) e h =
    ap (λ z. z ∷ xs) (h 0 x y refl refl) ∙ ap (λ zs. y ∷ zs) (one_list xs ys (let f : length xs ≡ length ys = omega (arith, e) in f) (λ k a b p q. h (suc k) a b p q))
