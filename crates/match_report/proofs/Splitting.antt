-- One answer more.
use Rattle.std.proofs.Common.{◌≡◌, ℕ, ◌+◌, List, ◌∷◌, Some, map, drop, slice_get, ◌∙◌, ap}
use Rattle.std.proofs.lemmas.List.{drop_more}
use Rattle.std.proofs.lemmas.Option.{slice_get_within, get_or_from_slice_get}

pub split : {A B : Type 0} (f : A → B) (xs : List A) (i : ℕ) (x : A) → slice_get xs i ≡ Some x
    → map f (drop i xs) ≡ f x ∷ map f (drop (i + 1) xs)
split {A = A} f xs i x e =
    ap (λ (ys : List A). map f ys) (drop_more xs i x (slice_get_within xs i x e))
    ∙ ap (λ (y : A). f y ∷ map f (drop (i + 1) xs)) (get_or_from_slice_get xs i x x e)
