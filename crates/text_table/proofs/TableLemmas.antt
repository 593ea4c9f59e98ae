-- Look-ups among texts that a table holds.
use Rattle.std.proofs.Common.{◌≡◌, inl, inr, length, sym, ℕ, suc, ◌+◌, ◌≤◌, List, [], ◌∷◌, ◌++◌, map, Bool, true, false, cond, Some, None, refl, ap, ◌∙◌, arith}
use Rattle.std.proofs.lemmas.Bool.{cases_Bool}
use Rattle.std.proofs.lemmas.List.{map-append}
use Rattle.std.specs.Prelude.{◌||◌, not, nat_lt, unwrap_or}
use Rattle.std.specs.List.{list_any, position_or_len}
use Rattle.std.specs.Str.{bytes_eq}
use Rattle.text_table.specs.Texts.{has_text, with_text}

pub any_of : {A B : Type 0} (p : B → Bool) (f : A → B) (xs : List A) → list_any (λ x. p (f x)) xs ≡ list_any p (map f xs)
any_of p f [] = refl
any_of p f (x ∷ xs) = ap (λ (b : Bool). p (f x) || b) (any_of p f xs)

pub place_in : {A B : Type 0} (p : B → Bool) (f : A → B) (xs : List A) → position_or_len (λ x. p (f x)) xs ≡ position_or_len p (map f xs)
place_in p f [] = refl
place_in p f (x ∷ xs) = ap (λ (n : ℕ). cond (not (p (f x))) (1 + n) 0) (place_in p f xs)

-- the place, or the length
pub or_len : (n m : ℕ) (b : Bool) → nat_lt n m ≡ b → n ≤ m → unwrap_or (cond b (Some n) None) m ≡ n
or_len n m true e h = refl
or_len n m false e h = grind (arith, e, h)

-- what isn't there goes last
pub pushed : {A : Type 0} (b : Bool) (xs : List A) (x : A) → b ≡ false → cond b xs (xs ++ x ∷ []) ≡ xs ++ x ∷ []
pushed b xs x e = rw e refl

pub text_pushed : {A : Type 0} (items : A → List ℕ) (vs : List A) (v : A) (text : List ℕ) → items v ≡ text → list_any (bytes_eq text) (map items vs) ≡ false
    → map items (cond (list_any (λ u. bytes_eq (items v) (items u)) vs) vs (vs ++ v ∷ [])) ≡ map items vs ++ text ∷ []
text_pushed {A = A} items vs v text e absent =
    let none : list_any (λ u. bytes_eq (items v) (items u)) vs ≡ false = any_of (bytes_eq (items v)) items vs ∙ rw e absent in
    ap (λ (us : List A). map items us) (pushed _ vs v none) ∙ map-append items vs (v ∷ []) ∙ ap (λ (t : List ℕ). map items vs ++ t ∷ []) e

-- a text is there exactly where its place is below the number of texts
pub place_last : (texts : List (List ℕ)) (p : List ℕ → Bool) → position_or_len p texts ≡ length texts → list_any p texts ≡ false
place_last [] p e = refl
place_last (t ∷ ts) p e = elim (cases_Bool (p t)) [
  | inl y ↦ let z : 0 ≡ suc (length ts) = sym (rw y refl) ∙ e in absurd (omega arith)
  | inr n ↦ rw n (place_last ts p (let z : 1 + position_or_len p ts ≡ suc (length ts) = sym (rw n refl) ∙ e in omega arith))
]

pub place_before : (texts : List (List ℕ)) (p : List ℕ → Bool) → (position_or_len p texts ≡ length texts → ⊥) → list_any p texts ≡ true
place_before [] p e = absurd (e refl)
place_before (t ∷ ts) p e = elim (cases_Bool (p t)) [
  | inl y ↦ rw y refl
  | inr n ↦ rw n (place_before ts p (λ same. e (rw n (omega arith))))
]

pub added : (texts : List (List ℕ)) (text : List ℕ) → has_text texts text ≡ false → texts ++ text ∷ [] ≡ with_text texts text
added texts text e = rw e refl

pub there : (texts : List (List ℕ)) (text : List ℕ) → has_text texts text ≡ true → texts ≡ with_text texts text
there texts text e = rw e refl
