-- A word more, a parameter more.
use Rattle.std.proofs.Common.{◌≡◌, List, [], ◌∷◌, ◌++◌, map, Option, Some, None, refl, ap, ◌∙◌, append_assoc}
use Rattle.std.proofs.lemmas.List.{map-append}
use Rattle.spice_cards.specs.Parts.{Param, onto}

-- parameters before those that stand behind, if any do
abbrev pub after : List Param → Option (List Param) → Option (List Param)
after ps None = None
after ps (Some qs) = Some (ps ++ qs)

pub after_one : (ps : List Param) (p : Param) (o : Option (List Param)) → after (ps ++ p ∷ []) o ≡ after ps (onto p o)
after_one ps p None = refl
after_one ps p (Some qs) = ap (λ (xs : List Param). Some xs) (append_assoc ps (p ∷ []) qs)

pub push_seen : {A B : Type 0} (f : A → B) (xs ys : List A) (x : A) (tail total : List B) → ys ≡ xs ++ x ∷ [] → map f xs ++ f x ∷ tail ≡ total → map f ys ++ tail ≡ total
push_seen {B = B} f xs ys x tail total e h = rw e (ap (λ (zs : List B). zs ++ tail) (map-append f xs (x ∷ [])) ∙ append_assoc (map f xs) (f x ∷ []) tail ∙ h)
