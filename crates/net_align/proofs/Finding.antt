-- Names found in a list where each stands once.
use Rattle.std.proofs.Common.{◌≡◌, inl, inr, ℕ, zero, suc, ◌<◌, Bool, true, false, List, [], ◌∷◌, length, map, take, Some, None, slice_get, refl, sym, ◌∙◌, ap, arith}
use Rattle.std.proofs.lemmas.Bool.{cases_Bool}
use Rattle.std.specs.Prelude.{nat_lt, if◌then◌else◌}
use Rattle.std.specs.Str.{bytes_eq}
use Rattle.std.proofs.lemmas.Slice.Eq.{bytes_eq-Decides}
use Rattle.std.proofs.lemmas.Option.{none-some, slice_get-map}
use Rattle.text_table.specs.Texts.{has_text, place_of}
use Rattle.net_align.specs.Names.{AreOnce, found_in, FindsNames}

at_place : (names : List (List ℕ)) (q : List ℕ) → place_of names q < length names → slice_get names (place_of names q) ≡ Some q
at_place [] q low = absurd (let l = low in omega arith)
at_place (x ∷ xs) q low = elim (cases_Bool (bytes_eq q x)) [
  | inl t ↦ let e : place_of (x ∷ xs) q ≡ 0 = rw t refl in
      let same : q ≡ x = (bytes_eq-Decides q x).0 t in
      ap (λ (k : ℕ). slice_get (x ∷ xs) k) e ∙ ap Some (sym same)
  | inr f ↦ let e : place_of (x ∷ xs) q ≡ suc (place_of xs q) = rw f (omega arith) in
      let l : place_of xs q < length xs = omega (arith, e, low) in
      ap (λ (k : ℕ). slice_get (x ∷ xs) k) e ∙ at_place xs q l
]

is_there : (names : List (List ℕ)) (q : List ℕ) (i : ℕ) → slice_get names i ≡ Some q → place_of names q < length names
is_there [] q i e = absurd (let z : ⊥ = cc in z)
is_there (x ∷ xs) q zero e =
    let same : q ≡ x = cc in
    let t : bytes_eq q x ≡ true = (bytes_eq-Decides q x).1 same in
    let z : place_of (x ∷ xs) q ≡ 0 = rw t refl in
    omega (arith, z)
is_there (x ∷ xs) q (suc i) e = elim (cases_Bool (bytes_eq q x)) [
  | inl t ↦ let z : place_of (x ∷ xs) q ≡ 0 = rw t refl in omega (arith, z)
  | inr f ↦ let z : place_of (x ∷ xs) q ≡ suc (place_of xs q) = rw f (omega arith) in
      let l = is_there xs q i e in omega (arith, z, l)
]

found_at : (names : List (List ℕ)) (q : List ℕ) (i : ℕ) (b : Bool) → nat_lt (place_of names q) (length names) ≡ b
    → (if b then Some (place_of names q) else None) ≡ Some i → slice_get names i ≡ Some q
found_at names q i true low e =
    let k : place_of names q ≡ i = cc in
    let l : place_of names q < length names = grind (arith, low) in
    ap (λ (j : ℕ). slice_get names j) (sym k) ∙ at_place names q l
found_at names q i false low e = absurd (none-some i e)

pub finds_names : (names : List (List ℕ)) → AreOnce names → FindsNames names (found_in names)
finds_names names once q i = (
  (λ e. found_at names q i (nat_lt (place_of names q) (length names)) refl e),
  (λ e.
      let l = is_there names q i e in
      let t : nat_lt (place_of names q) (length names) ≡ true = grind (arith, l) in
      let k : place_of names q ≡ i = once (place_of names q) i q (at_place names q l) e in
      rw t (ap Some k)),
)

-- ---- a name that is to be added isn't there yet

missing : (names : List (List ℕ)) (q : List ℕ) → ((i : ℕ) → slice_get names i ≡ Some q → ⊥) → has_text names q ≡ false
missing [] q none = refl
missing (x ∷ xs) q none = elim (cases_Bool (bytes_eq q x)) [
  | inl t ↦ let same : q ≡ x = (bytes_eq-Decides q x).0 t in absurd (none 0 (ap Some (sym same)))
  | inr f ↦ rw f (missing xs q (λ i e. none (suc i) e))
]

pub taken : {A : Type 0} (xs : List A) (n i : ℕ) (x : A) → slice_get (take n xs) i ≡ Some x → (slice_get xs i ≡ Some x) × (i < n)
taken [] zero i x e = absurd (let z : ⊥ = cc in z)
taken [] (suc n) i x e = absurd (let z : ⊥ = cc in z)
taken (y ∷ xs) zero i x e = absurd (let z : ⊥ = cc in z)
taken (y ∷ xs) (suc n) zero x e = (e, omega arith)
taken (y ∷ xs) (suc n) (suc i) x e = let r = taken xs n i x e in (r.0, let l = r.1 in omega arith)

map_taken : {A : Type 0} (f : A → List ℕ) (xs : List A) (n : ℕ) → map f (take n xs) ≡ take n (map f xs)
map_taken f [] zero = refl
map_taken f [] (suc n) = refl
map_taken f (x ∷ xs) zero = refl
map_taken f (x ∷ xs) (suc n) = ap (λ (t : List (List ℕ)). f x ∷ t) (map_taken f xs n)

pub not_yet : {A : Type 0} (f : A → List ℕ) (xs : List A) (n : ℕ) (x : A) → AreOnce (map f xs) → slice_get xs n ≡ Some x → has_text (map f (take n xs)) (f x) ≡ false
not_yet f xs n x once e =
    let here : slice_get (map f xs) n ≡ Some (f x) = slice_get-map f xs n ∙ rw e refl in
    ap (λ (t : List (List ℕ)). has_text t (f x)) (map_taken f xs n)
    ∙ missing (take n (map f xs)) (f x) (λ i h.
    let r = taken (map f xs) n i (f x) h in
    let k : i ≡ n = once i n (f x) r.0 here in
    let l = r.1 in
    absurd (omega (arith, k, l)))
