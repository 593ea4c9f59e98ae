-- What was read at a place of a list.
use Rattle.std.proofs.Common.{◌≡◌, ℕ, ◌<◌, List, length, map, slice_get, slice_index, get_or, option_map, Some, refl, sym, ◌∙◌, ap}
use Rattle.std.proofs.lemmas.Option.{slice_get-map, slice_get_read, get_or_from_slice_get}

-- a row that was read is the row seen as a plain one
pub row : {A X : Type 0} (v : A → X) (xs : List A) (k : ℕ) (x : A) → k < length xs → x ≡ get_or xs k x → slice_get (map v xs) k ≡ Some (v x)
row v xs k x l e = slice_get-map v xs k ∙ ap (option_map v) (slice_get_read xs (length xs) k x refl l e)

-- a number that was read
pub read : (xs : List ℕ) (k v : ℕ) → k < length xs → v ≡ get_or xs k v → v ≡ slice_index xs k
read xs k v l e = sym (get_or_from_slice_get xs k v 0 (slice_get_read xs (length xs) k v refl l e))
