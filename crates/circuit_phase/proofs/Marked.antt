-- The places of true, one by one.
use Rattle.std.proofs.Common.{◌≡◌, ℕ, zero, suc, ◌+◌, ◌<◌, Bool, true, false, ◌&&◌, List, [], ◌∷◌, ◌++◌, append_assoc, get_or, length, drop, refl, sym, ◌∙◌, ap, arith}
use Rattle.std.specs.Prelude.{cond, if◌then◌else◌}
use Rattle.std.proofs.lemmas.List.{append-nil, at_drop_more}
use Rattle.flat_layout.specs.Circuits.{both, true_places}

put : (b : Bool) (n : ℕ) (old rest : List ℕ) → (old ++ (if b then n ∷ [] else [])) ++ rest ≡ old ++ cond b (n ∷ rest) rest
put true n old rest = append_assoc old (n ∷ []) rest
put false n old rest = ap (λ (l : List ℕ). l ++ rest) (append-nil old)

pub places_more : (xs : List Bool) (n : ℕ) (old new all : List ℕ) → n < length xs → new ≡ old ++ (if get_or xs n false then n ∷ [] else []) → old ++ true_places n (drop n xs) ≡ all → new ++ true_places (n + 1) (drop (n + 1) xs) ≡ all
places_more xs n old new all lt added h =
    let e : suc n ≡ n + 1 = omega arith in
    let b = get_or xs n false in
    let rest = true_places (n + 1) (drop (n + 1) xs) in
    ap (λ (l : List ℕ). l ++ rest) added ∙ put b n old rest
    ∙ ap (λ (j : ℕ). old ++ cond b (n ∷ true_places j (drop (n + 1) xs)) (true_places j (drop (n + 1) xs))) (sym e)
    ∙ ap (λ (l : List ℕ). old ++ l) (sym (at_drop_more (true_places n) xs n false lt)) ∙ h

pub none_left : (xs : List Bool) (n : ℕ) → n ≡ length xs → drop n xs ≡ []
none_left [] zero h = refl
none_left [] (suc n) h = refl
none_left (x ∷ xs) zero h = absurd (omega arith)
none_left (x ∷ xs) (suc n) h = none_left xs n (omega arith)

pub places_end : (xs : List Bool) (n : ℕ) (new all : List ℕ) → n ≡ length xs → new ++ true_places n (drop n xs) ≡ all → new ≡ all
places_end xs n new all e h = sym (append-nil new) ∙ sym (ap (λ (l : List Bool). new ++ true_places n l) (none_left xs n e)) ∙ h

pub both_long : (xs ys : List Bool) → length xs ≡ length ys → length (both xs ys) ≡ length ys
both_long [] [] h = refl
both_long [] (y ∷ ys) h = absurd (omega arith)
both_long (x ∷ xs) [] h = absurd (omega arith)
both_long (x ∷ xs) (y ∷ ys) h = ap suc (both_long xs ys (omega arith))

pub both_at : (xs ys : List Bool) (n : ℕ) → n < length xs → n < length ys → get_or (both xs ys) n false ≡ (get_or xs n false && get_or ys n false)
both_at [] ys n h g = absurd (omega arith)
both_at (x ∷ xs) [] n h g = absurd (omega arith)
both_at (x ∷ xs) (y ∷ ys) zero h g = refl
both_at (x ∷ xs) (y ∷ ys) (suc n) h g = both_at xs ys n (omega arith) (omega arith)

-- the places are those of a list that is so long
pub place_in : (k : ℕ) (xs : List Bool) (i : ℕ) → i < length (true_places k xs) → get_or (true_places k xs) i 0 < k + length xs
place_in k [] i h = absurd (omega arith)
place_in k (true ∷ xs) zero h = omega arith
place_in k (true ∷ xs) (suc i) h = let low = place_in (suc k) xs i (omega arith) in omega (arith, low)
place_in k (false ∷ xs) i h = let low = place_in (suc k) xs i h in omega (arith, low)
