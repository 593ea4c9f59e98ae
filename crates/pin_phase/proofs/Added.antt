-- What is added to lists step by step.
use Rattle.std.proofs.Common.{◌≡◌, ◌⊎◌, ◌↔◌, inl, inr, ℕ, ◌<◌, ◌+◌, List, Option, Some, length, get_or, slice_get, refl, sym, ◌∙◌, ap, subst, arith}
use Rattle.std.proofs.Math.Decide.{ℕ_discrete}
use Rattle.std.proofs.lemmas.Option.{slice_get-get_or, slice_get_within}
use Rattle.pin_phase.specs.Sets.{Adds, OfSome}

-- one of the first n
abbrev pub First : {A : Type 0} → (ℕ → ℕ → A → Type 0) → ℕ → ℕ → A → Type 0
First {A} P n x s = (i : ℕ) × (i < n) × P i x s

-- of the element at a place of a list
abbrev pub AtItem : {A B : Type 0} → (ℕ → B → ℕ → A → Type 0) → List B → ℕ → ℕ → A → Type 0
AtItem {A} {B} Q items i x s = (item : B) × (slice_get items i ≡ Some item) × Q i item x s

pub none_added : {A : Type 0} (R : ℕ → A → Type 0) (lists : List (List A)) → ((x : ℕ) (s : A) → R x s → ⊥) → Adds R lists lists
none_added {A} R lists none = record { count = refl; each = λ x s. ((λ h. inl h), (λ h. elim h [ inl a ↦ a | inr e ↦ absurd (none x s e) ])) }

pub added_as : {A : Type 0} (R S : ℕ → A → Type 0) (old new : List (List A)) → ((x : ℕ) (s : A) → R x s ↔ S x s) → Adds R old new → Adds S old new
added_as {A} R S old new same h = record {
  count = h.count;
  each = λ x s.
      let a = h.each x s in let b = same x s in (
        (λ m. elim (a.0 m) [ inl f ↦ inl f | inr e ↦ inr (b.0 e) ]),
        (λ m. elim m [ inl f ↦ a.1 (inl f) | inr e ↦ a.1 (inr (b.1 e)) ]),
      );
}

pub added_both : {A : Type 0} (R S : ℕ → A → Type 0) (old mid new : List (List A)) → Adds R old mid → Adds S mid new → Adds (λ x s. R x s ⊎ S x s) old new
added_both {A} R S old mid new h g = record {
  count = g.count ∙ h.count;
  each = λ x s.
      let a = h.each x s in let b = g.each x s in (
        (λ m. elim (b.0 m) [ inl k ↦ elim (a.0 k) [ inl f ↦ inl f | inr e ↦ inr (inl e) ] | inr e ↦ inr (inr e) ]),
        (λ m. elim m [ inl f ↦ b.1 (inl (a.1 (inl f))) | inr e ↦ elim e [ inl k ↦ b.1 (inl (a.1 (inr k))) | inr k ↦ b.1 (inr k) ] ]),
      );
}

pub first_none : {A : Type 0} (P : ℕ → ℕ → A → Type 0) (lists : List (List A)) → Adds (First P 0) lists lists
first_none {A} P lists = none_added (First P 0) lists (λ x s h. let lt = h.1 in let z : ⊥ = omega arith in z)

pub first_more : {A : Type 0} (P : ℕ → ℕ → A → Type 0) (n : ℕ) (first old new : List (List A)) → Adds (First P n) first old → Adds (P n) old new → Adds (First P (n + 1)) first new
first_more {A} P n first old new h g =
    added_as (λ x s. First P n x s ⊎ P n x s) (First P (n + 1)) first new (λ x s. (
      (λ m. elim m [ inl e ↦ (e.0, (let lt = e.1 in omega arith), e.2) | inr e ↦ (n, omega arith, e) ]),
      (λ e. elim (ℕ_discrete e.0 n) [ yes same ↦ inr (subst (λ i. P i x s) same e.2) | no not ↦ inl (e.0, (let lt = e.1 in omega arith), e.2) ]),
    )) (added_both (First P n) (P n) first old new h g)

-- the element at the next place of a list
pub item_more : {A B : Type 0} (Q : ℕ → B → ℕ → A → Type 0) (items : List B) (n : ℕ) (item : B) (first old new : List (List A)) → n < length items → item ≡ get_or items n item
    → Adds (First (AtItem Q items) n) first old → Adds (Q n item) old new → Adds (First (AtItem Q items) (n + 1)) first new
item_more {A} {B} Q items n item first old new lt is h g =
    let there : slice_get items n ≡ Some item = slice_get-get_or items n item lt ∙ ap Some (sym is) in
    first_more (AtItem Q items) n first old new h (added_as (Q n item) (AtItem Q items n) old new (λ x s. (
      (λ e. (item, there, e)),
      (λ e. let same : e.0 ≡ item = one (slice_get items n) e.0 item e.1 there in subst (λ (i : B). Q n i x s) same e.2),
    )) g)
  where
    one : {B : Type 0} (o : Option B) (a b : B) → o ≡ Some a → o ≡ Some b → a ≡ b
    one o a b h g = cc

-- and of all
pub items_all : {A B : Type 0} (Q : ℕ → B → ℕ → A → Type 0) (items : List B) (n : ℕ) (first new : List (List A)) → n ≡ length items → Adds (First (AtItem Q items) n) first new → Adds (OfSome Q items) first new
items_all {A} {B} Q items n first new e h = added_as (First (AtItem Q items) n) (OfSome Q items) first new (λ x s. (
  (λ m. (m.0, m.2.0, m.2.1, m.2.2)),
  (λ m. (m.0, (let lt = slice_get_within items m.0 m.1 m.2 in omega (arith, lt)), (m.1, m.2, m.3))),
)) h
