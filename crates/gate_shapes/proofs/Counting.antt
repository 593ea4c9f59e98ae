-- Counts add up.
use Rattle.std.proofs.Common.{◌≡◌, ◌⊎◌, ◌↔◌, inl, inr, ℕ, ◌+◌, List, [], ◌∷◌, ◌++◌, length, map, refl, sym, ◌∙◌, ap, subst, length-append}
use Rattle.std.proofs.lemmas.List.{length-map}
use Rattle.flat_layout.specs.Parts.{Counts}
use Rattle.plain_netlist.specs.Lists.{IsListed, AreApart}

pub counts_none : {A : Type 0} (P : A → Type 0) → ((a : A) → P a → ⊥) → Counts P 0
counts_none P none = record { all = []; apart = tt; each = λ a. ((λ h. none a h), (λ h. absurd h)); count = refl }

pub counts_one : {A : Type 0} (P : A → Type 0) (x : A) → P x → ((a : A) → P a → a ≡ x) → Counts P 1
counts_one P x here only = record {
  all = x ∷ [];
  apart = ((λ h. h), tt);
  each = λ a. ((λ h. inl (only a h)), (λ h. elim h [ inl e ↦ subst (λ y. P y) (sym e) here | inr g ↦ absurd g ]));
  count = refl;
}

pub counts_same : {A : Type 0} (P Q : A → Type 0) (n : ℕ) → ((a : A) → P a ↔ Q a) → Counts P n → Counts Q n
counts_same P Q n same c = record { all = c.all; apart = c.apart; each = λ a. ((λ h. (c.each a).0 ((same a).1 h)), (λ h. (same a).0 ((c.each a).1 h))); count = c.count }

listed_left : {A : Type 0} (a : A) (xs ys : List A) → IsListed a xs → IsListed a (xs ++ ys)
listed_left a [] ys h = absurd h
listed_left a (x ∷ xs) ys (inl e) = inl e
listed_left a (x ∷ xs) ys (inr h) = inr (listed_left a xs ys h)

listed_right : {A : Type 0} (a : A) (xs ys : List A) → IsListed a ys → IsListed a (xs ++ ys)
listed_right a [] ys h = h
listed_right a (x ∷ xs) ys h = inr (listed_right a xs ys h)

listed_either : {A : Type 0} (a : A) (xs ys : List A) → IsListed a (xs ++ ys) → IsListed a xs ⊎ IsListed a ys
listed_either a [] ys h = inr h
listed_either a (x ∷ xs) ys (inl e) = inl (inl e)
listed_either a (x ∷ xs) ys (inr h) = elim (listed_either a xs ys h) [ inl g ↦ inl (inr g) | inr g ↦ inr g ]

apart_both : {A : Type 0} (xs ys : List A) → AreApart xs → AreApart ys → ((a : A) → IsListed a xs → IsListed a ys → ⊥) → AreApart (xs ++ ys)
apart_both [] ys h g not = g
apart_both (x ∷ xs) ys h g not =
    ((λ l. elim (listed_either x xs ys l) [ inl k ↦ h.0 k | inr k ↦ not x (inl refl) k ]), apart_both xs ys h.1 g (λ a i j. not a (inr i) j))

pub counts_or : {A : Type 0} (P Q : A → Type 0) (m n k : ℕ) → m + n ≡ k → ((a : A) → P a → Q a → ⊥) → Counts P m → Counts Q n → Counts (λ a. P a ⊎ Q a) k
counts_or P Q m n k sum not c d = record {
  all = c.all ++ d.all;
  apart = apart_both c.all d.all c.apart d.apart (λ a i j. not a ((c.each a).1 i) ((d.each a).1 j));
  each = λ a. (
    (λ h. elim h [ inl p ↦ listed_left a c.all d.all ((c.each a).0 p) | inr q ↦ listed_right a c.all d.all ((d.each a).0 q) ]),
    (λ l. elim (listed_either a c.all d.all l) [ inl i ↦ inl ((c.each a).1 i) | inr j ↦ inr ((d.each a).1 j) ]),
  );
  count = length-append c.all d.all ∙ ap (λ (i : ℕ). i + length d.all) c.count ∙ ap (λ (i : ℕ). m + i) d.count ∙ sum;
}

listed_map : {A B : Type 0} (f : A → B) (a : A) (xs : List A) → IsListed a xs → IsListed (f a) (map f xs)
listed_map f a [] h = h
listed_map f a (x ∷ xs) (inl e) = inl (ap f e)
listed_map f a (x ∷ xs) (inr h) = inr (listed_map f a xs h)

listed_unmap : {A B : Type 0} (f : A → B) (b : B) (xs : List A) → IsListed b (map f xs) → (a : A) × IsListed a xs × (b ≡ f a)
listed_unmap f b [] h = absurd h
listed_unmap f b (x ∷ xs) (inl e) = (x, inl refl, e)
listed_unmap f b (x ∷ xs) (inr h) = let r = listed_unmap f b xs h in (r.0, inr r.1, r.2)

apart_map : {A B : Type 0} (f : A → B) → ((a c : A) → f a ≡ f c → a ≡ c) → (xs : List A) → AreApart xs → AreApart (map f xs)
apart_map f one [] h = tt
apart_map f one (x ∷ xs) h = ((λ l. let r = listed_unmap f (f x) xs l in h.0 (subst (λ y. IsListed y xs) (sym (one x r.0 r.2)) r.1)), apart_map f one xs h.1)

-- the images of so many are so many
pub counts_image : {A B : Type 0} (f : A → B) → ((a c : A) → f a ≡ f c → a ≡ c) → (P : A → Type 0) (n : ℕ) → Counts P n → Counts (λ b. (a : A) × P a × (b ≡ f a)) n
counts_image f one P n c = record {
  all = map f c.all;
  apart = apart_map f one c.all c.apart;
  each = λ b. (
    (λ h. subst (λ y. IsListed y (map f c.all)) (sym h.2) (listed_map f h.0 c.all ((c.each h.0).0 h.1))),
    (λ l. let r = listed_unmap f b c.all l in (r.0, (c.each r.0).1 r.1, r.2)),
  );
  count = length-map c.all f ∙ c.count;
}
