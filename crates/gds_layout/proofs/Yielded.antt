-- What a loop by value has taken of its list.
use Rattle.std.proofs.Common.{◌≡◌, ℕ, zero, suc, ◌+◌, ◌≤◌, List, [], ◌∷◌, ◌++◌, map, take, length, slice_get, Some, arith, ap, subst, ◌∙◌, refl, sym, append-nil}
use Rattle.std.proofs.lemmas.List.{map-append, take_all}
use Rattle.std.specs.List.{All, AllByRecursion}
use Rattle.std.proofs.lemmas.List.Elements.{All-from_recursion, recursion_from_All}

pub one_yielded : {A : Type 0} (all xs ys rest : List A) (y : A) → all ≡ xs ++ rest → rest ≡ y ∷ ys → all ≡ (xs ++ y ∷ []) ++ ys
one_yielded {A = A} all xs ys rest y e f = e ∙ ap (λ r. xs ++ r) f ∙ joined xs
  where
    joined : (xs : List A) → xs ++ y ∷ ys ≡ (xs ++ y ∷ []) ++ ys
    joined [] = refl
    joined (x ∷ xs) = ap (λ zs. x ∷ zs) (joined xs)

pub all_yielded : {A : Type 0} (all xs rest : List A) → all ≡ xs ++ rest → rest ≡ [] → xs ≡ all
all_yielded all xs rest e f = sym (e ∙ ap (λ r. xs ++ r) f ∙ append-nil xs)

at_front : {A : Type 0} (P : A → Type 0) (xs ys : List A) (y : A) → AllByRecursion P (xs ++ y ∷ ys) → P y
at_front P [] ys y h = h.0
at_front P (x ∷ xs) ys y h = at_front P xs ys y h.1

-- what holds of all holds of the next
pub next_of_all : {A : Type 0} (P : A → Type 0) (all xs ys rest : List A) (y : A) → All P all → all ≡ xs ++ rest → rest ≡ y ∷ ys → P y
next_of_all {A = A} P all xs ys rest y h e f = at_front P xs ys y (subst (λ (zs : List A). AllByRecursion P zs) (e ∙ ap (λ r. xs ++ r) f) (recursion_from_All P all h))

-- two lists seen alike, with one more each
pub maps_more : {A B C : Type 0} (f : A → C) (g : B → C) (xs : List A) (x : A) (ys : List B) (y : B) → map f xs ≡ map g ys → f x ≡ g y → map f (xs ++ x ∷ []) ≡ map g (ys ++ y ∷ [])
maps_more {C = C} f g xs x ys y e h = map-append f xs (x ∷ []) ∙ ap (λ (zs : List C). zs ++ f x ∷ []) e ∙ ap (λ (z : C). map g ys ++ z ∷ []) h ∙ sym (map-append g ys (y ∷ []))

-- what holds of all that is seen holds of the next
pub next_seen : {A B : Type 0} (P : B → Type 0) (f : A → B) (all xs ys rest : List A) (y : A) → All P (map f all) → all ≡ xs ++ rest → rest ≡ y ∷ ys → P (f y)
next_seen {A = A} {B = B} P f all xs ys rest y h e g =
    let whole : map f all ≡ map f xs ++ map f rest = ap (map f) e ∙ map-append f xs rest in
    next_of_all P (map f all) (map f xs) (map f ys) (map f rest) (f y) h whole (ap (map f) g)

next_seen_by : {A B : Type 0} (f : A → B) (xs : List A) (n : ℕ) (x : A) → slice_get xs n ≡ Some x → map f (take (suc n) xs) ≡ map f (take n xs) ++ f x ∷ []
next_seen_by f [] n x e = absurd cc
next_seen_by f (y ∷ xs) zero x e = let same : y ≡ x = cc in ap (λ z. f z ∷ []) same
next_seen_by f (y ∷ xs) (suc n) x e = ap (λ zs. f y ∷ zs) (next_seen_by f xs n x e)

pub one_seen : {A B : Type 0} (f : A → B) (xs : List A) (n : ℕ) (x : A) → slice_get xs n ≡ Some x → map f (take (n + 1) xs) ≡ map f (take n xs) ++ f x ∷ []
one_seen f xs n x e = let more : n + 1 ≡ suc n = omega arith in ap (λ k. map f (take k xs)) more ∙ next_seen_by f xs n x e

pub all_seen : {A : Type 0} (xs : List A) (n : ℕ) → length xs ≤ n → take n xs ≡ xs
all_seen xs n h = take_all n xs h

by_place : {A B : Type 0} (P : B → Type 0) (f : A → B) (xs : List A) (n : ℕ) (x : A) → AllByRecursion P (map f xs) → slice_get xs n ≡ Some x → P (f x)
by_place P f [] n x h e = absurd cc
by_place P f (y ∷ xs) zero x h e = let same : y ≡ x = cc in subst (λ z. P (f z)) same h.0
by_place P f (y ∷ xs) (suc n) x h e = by_place P f xs n x h.1 e

pub seen_at : {A B : Type 0} (P : B → Type 0) (f : A → B) (xs : List A) (n : ℕ) (x : A) → All P (map f xs) → slice_get xs n ≡ Some x → P (f x)
seen_at P f xs n x h e = by_place P f xs n x (recursion_from_All P (map f xs) h) e

last_by : {A : Type 0} (P : A → Type 0) (xs ys : List A) → AllByRecursion P (xs ++ ys) → AllByRecursion P ys
last_by P [] ys h = h
last_by P (x ∷ xs) ys h = last_by P xs ys h.1

-- what holds of all holds of the last
pub last_of_all : {A : Type 0} (P : A → Type 0) (xs ys : List A) → All P (xs ++ ys) → All P ys
last_of_all P xs ys h = All-from_recursion P ys (last_by P xs ys (recursion_from_All P (xs ++ ys) h))
