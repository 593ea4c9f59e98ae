-- Lists, one for each number: tags by nets, and more.
use Rattle.std.proofs.Common.{◌≡◌, ◌⊎◌, ◌↔◌, inl, inr, ℕ, suc, zero, ◌<◌, ◌+◌, List, [], ◌∷◌, ◌++◌, length, map, get_or, refl, sym, ◌∙◌, ap, subst, arith}
use Rattle.std.specs.Prelude.{set}
use Rattle.plain_netlist.specs.Lists.{IsListed}
use Rattle.pin_phase.specs.Sets.{Adds, Has, HaveNone}

listed_push : {A : Type 0} (q r : A) (xs : List A) → IsListed q (xs ++ r ∷ []) ↔ (IsListed q xs ⊎ (q ≡ r))
listed_push q r xs = (there q r xs, back q r xs)
  where
    there : {A : Type 0} (q r : A) (xs : List A) → IsListed q (xs ++ r ∷ []) → IsListed q xs ⊎ (q ≡ r)
    there q r [] (inl e) = inr e
    there q r [] (inr h) = absurd h
    there q r (x ∷ xs) (inl e) = inl (inl e)
    there q r (x ∷ xs) (inr h) = elim (there q r xs h) [ inl a ↦ inl (inr a) | inr e ↦ inr e ]

    back : {A : Type 0} (q r : A) (xs : List A) → IsListed q xs ⊎ (q ≡ r) → IsListed q (xs ++ r ∷ [])
    back q r [] (inl h) = absurd h
    back q r [] (inr e) = inl e
    back q r (x ∷ xs) (inl (inl e)) = inl e
    back q r (x ∷ xs) (inl (inr h)) = inr (back q r xs (inl h))
    back q r (x ∷ xs) (inr e) = inr (back q r xs (inr e))

-- one tag more in the n-th list
added : {A : Type 0} (xs : List (List A)) (n : ℕ) (tag : A) → n < length xs → (x : ℕ) (s : A) → Has (set xs n (get_or xs n [] ++ tag ∷ [])) x s ↔ (Has xs x s ⊎ ((x ≡ n) × (s ≡ tag)))
added [] n tag lt x s = absurd (omega arith)
added (y ∷ ys) zero tag lt zero s =
    let p = listed_push s tag y in
    ((λ h. elim (p.0 h) [ inl a ↦ inl a | inr e ↦ inr (refl, e) ]), (λ h. elim h [ inl a ↦ p.1 (inl a) | inr e ↦ p.1 (inr e.1) ]))
added (y ∷ ys) zero tag lt (suc x) s = ((λ h. inl h), (λ h. elim h [ inl a ↦ a | inr e ↦ absurd (let f = e.0 in omega arith) ]))
added (y ∷ ys) (suc n) tag lt zero s = ((λ h. inl h), (λ h. elim h [ inl a ↦ a | inr e ↦ absurd (let f = e.0 in omega arith) ]))
added (y ∷ ys) (suc n) tag lt (suc x) s =
    let p = added ys n tag (omega arith) x s in
    ((λ h. elim (p.0 h) [ inl a ↦ inl a | inr e ↦ inr (ap suc e.0, e.1) ]), (λ h. elim h [ inl a ↦ p.1 (inl a) | inr e ↦ p.1 (inr (let f = e.0 in omega arith, e.1)) ]))

count_set : {A : Type 0} (xs : List (List A)) (n : ℕ) (v : List A) → length (set xs n v) ≡ length xs
count_set [] n v = refl
count_set (x ∷ xs) zero v = refl
count_set (x ∷ xs) (suc n) v = ap suc (count_set xs n v)

mapped_set : {A B : Type 0} (f : A → List B) (xs : List A) (n : ℕ) (v : A) → map f (set xs n v) ≡ set (map f xs) n (f v)
mapped_set f [] n v = refl
mapped_set f (x ∷ xs) zero v = refl
mapped_set {A} {B} f (x ∷ xs) (suc n) v = ap (λ (l : List (List B)). f x ∷ l) (mapped_set f xs n v)

mapped_get : {A B : Type 0} (f : A → List B) (xs : List A) (n : ℕ) (d : A) → n < length xs → f (get_or xs n d) ≡ get_or (map f xs) n []
mapped_get f [] n d lt = absurd (omega arith)
mapped_get f (x ∷ xs) zero d lt = refl
mapped_get f (x ∷ xs) (suc n) d lt = mapped_get f xs n d (omega arith)

mapped_length : {A B : Type 0} (f : A → List B) (xs : List A) → length (map f xs) ≡ length xs
mapped_length f [] = refl
mapped_length f (x ∷ xs) = ap suc (mapped_length f xs)

pub adds_one : {A B : Type 0} (f : A → List B) (xs : List A) (n : ℕ) (v d : A) (tag : B) → n < length (map f xs) → f v ≡ f (get_or xs n d) ++ tag ∷ [] → Adds (λ (x : ℕ) (s : B). (x ≡ n) × (s ≡ tag)) (map f xs) (map f (set xs n v))
adds_one {A} {B} f xs n v d tag lt e =
    let fit : n < length xs = subst (λ (k : ℕ). n < k) (mapped_length f xs) lt in
    let value : f v ≡ get_or (map f xs) n [] ++ tag ∷ [] = e ∙ ap (λ (l : List B). l ++ tag ∷ []) (mapped_get f xs n d fit) in
    let is : map f (set xs n v) ≡ set (map f xs) n (get_or (map f xs) n [] ++ tag ∷ []) = mapped_set f xs n v ∙ ap (set (map f xs) n) value in
    record {
      count = ap length is ∙ count_set (map f xs) n (get_or (map f xs) n [] ++ tag ∷ []);
      each = λ x s. subst (λ (l : List (List B)). Has l x s ↔ (Has (map f xs) x s ⊎ ((x ≡ n) × (s ≡ tag)))) (sym is) (added (map f xs) n tag lt x s);
    }

-- a net more, without a tag
pub none_more : {A B : Type 0} (f : A → List B) (xs : List A) (v : A) (n : ℕ) → f v ≡ [] → HaveNone n (map f xs) → HaveNone (n + 1) (map f (xs ++ v ∷ []))
none_more {A} {B} f xs v n e h = record { count = longer xs n h.count; none = none xs h.none }
  where
    longer : (xs : List A) (n : ℕ) → length (map f xs) ≡ n → length (map f (xs ++ v ∷ [])) ≡ n + 1
    longer [] n e = let g : 0 ≡ n = e in omega arith
    longer (x ∷ xs) zero e = absurd (let g : suc (length (map f xs)) ≡ 0 = e in omega arith)
    longer (x ∷ xs) (suc n) e = let more : length (map f (xs ++ v ∷ [])) ≡ n + 1 = longer xs n (let g : suc (length (map f xs)) ≡ suc n = e in omega arith) in omega arith

    none : (xs : List A) → ((x : ℕ) (s : B) → Has (map f xs) x s → ⊥) → (x : ℕ) (s : B) → Has (map f (xs ++ v ∷ [])) x s → ⊥
    none [] g zero s m = subst (λ (l : List B). IsListed s l) e m
    none [] g (suc x) s m = m
    none (y ∷ ys) g zero s m = g zero s m
    none (y ∷ ys) g (suc x) s m = none ys (λ k r a. g (suc k) r a) x s m

pub none_yet : {A B : Type 0} (f : A → List B) (xs : List A) → xs ≡ [] → HaveNone 0 (map f xs)
none_yet f [] e = record { count = refl; none = λ x s h. h }
none_yet f (x ∷ xs) e = let z : ⊥ = cc in absurd z
