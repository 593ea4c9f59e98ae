-- Lists made item by item.
use Rattle.std.proofs.Common.{◌≡◌, ℕ, suc, List, [], ◌∷◌, ◌++◌, map, refl, ◌∙◌, ap}
use Rattle.std.proofs.lemmas.Grind.{flat_map-append}
use Rattle.std.specs.Prelude.{flat_map}
use Rattle.std.proofs.lemmas.List.{map-append}
use Rattle.align_laws.specs.Lists.{indexed, pieces}

pub map_indexed : {A B C : Type 0} (h : B → C) (f : ℕ → A → B) (xs : List A) → map h (indexed f xs) ≡ indexed (λ k x. h (f k x)) xs
map_indexed h f [] = refl
map_indexed {C = C} h f (x ∷ xs) = ap (λ (t : List C). h (f 0 x) ∷ t) (map_indexed h (λ k. f (suc k)) xs)

pub map_pieces : {A B C : Type 0} (h : B → C) (f : ℕ → A → List B) (xs : List A) → map h (pieces f xs) ≡ pieces (λ k x. map h (f k x)) xs
map_pieces h f [] = refl
map_pieces {C = C} h f (x ∷ xs) = map-append h (f 0 x) (pieces (λ k. f (suc k)) xs) ∙ ap (λ (ys : List C). map h (f 0 x) ++ ys) (map_pieces h (λ k. f (suc k)) xs)

pub flat_pieces : {A B C : Type 0} (h : B → List C) (f : ℕ → A → List B) (xs : List A) → flat_map h (pieces f xs) ≡ pieces (λ k x. flat_map h (f k x)) xs
flat_pieces h f [] = refl
flat_pieces {C = C} h f (x ∷ xs) = flat_map-append h (f 0 x) (pieces (λ k. f (suc k)) xs) ∙ ap (λ (ys : List C). flat_map h (f 0 x) ++ ys) (flat_pieces h (λ k. f (suc k)) xs)

pub map_same : {A : Type 0} (xs : List A) → map (λ (x : A). x) xs ≡ xs
map_same [] = refl
map_same {A} (x ∷ xs) = ap (λ (t : List A). x ∷ t) (map_same xs)
