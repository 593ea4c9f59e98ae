-- Counts and classes along a one-to-one map onto.
use Rattle.std.proofs.Common.{◌≡◌, ◌↔◌, inl, inr, ℕ, List, [], ◌∷◌, refl, sym, ◌∙◌, ap, subst, map}
use Rattle.std.proofs.lemmas.List.{length-map}
use Rattle.flat_layout.specs.Gates.{Counts, AreClasses}
use Rattle.flat_layout.specs.Layers.{reach}
use Rattle.plain_netlist.specs.Chains.{IsChain, Reaches}
use Rattle.plain_netlist.specs.Lists.{IsListed, AreApart}
use Rattle.plain_netlist.proofs.Links.{stays, prepend}

-- of equal predicates along a map onto, so many have the one as the other
listed_map : {A B : Type 0} (f : A → B) (a : A) (xs : List A) → IsListed a xs → IsListed (f a) (map f xs)
listed_map f a [] h = h
listed_map f a (x ∷ xs) (inl e) = inl (ap f e)
listed_map f a (x ∷ xs) (inr h) = inr (listed_map f a xs h)

listed_unmap : {A B : Type 0} (f : A → B) (b : B) (xs : List A) → IsListed b (map f xs) → (a : A) × IsListed a xs × (b ≡ f a)
listed_unmap f b [] h = absurd h
listed_unmap f b (x ∷ xs) (inl e) = (x, inl refl, e)
listed_unmap f b (x ∷ xs) (inr h) = let r = listed_unmap f b xs h in (r.0, inr r.1, r.2)

module _ {A B : Type 0} (f : A → B) (one : (a c : A) → f a ≡ f c → a ≡ c) where
  listed_down : (a : A) (xs : List A) → IsListed (f a) (map f xs) → IsListed a xs
  listed_down a xs h = let r = listed_unmap f (f a) xs h in subst (λ c. IsListed c xs) (sym (one a r.0 r.2)) r.1

  apart_map : (xs : List A) → AreApart xs → AreApart (map f xs)
  apart_map [] h = h
  apart_map (x ∷ xs) h = ((λ g. h.0 (listed_down x xs g)), apart_map xs h.1)

  pub counts_map : (P : A → Type 0) (Q : B → Type 0) → ((a : A) → Q (f a) ↔ P a) → ((b : B) → (a : A) × (f a ≡ b)) → (n : ℕ) → Counts P n → Counts Q n
  counts_map P Q same reach n c = record {
    all = map f c.all;
    apart = apart_map c.all c.apart;
    each = λ b.
        let r = reach b in (
          (λ q. subst (λ x. IsListed x (map f c.all)) r.1 (listed_map f r.0 c.all ((c.each r.0).0 ((same r.0).0 (subst (λ x. Q x) (sym r.1) q))))),
          (λ l. let k = listed_unmap f b c.all l in subst (λ x. Q x) (sym k.2) ((same k.0).1 ((c.each k.0).1 k.1))),
        );
    count = length-map c.all f ∙ c.count;
  }

  pub classes_map : (P : A → Type 0) (Q : B → Type 0) (R : A → A → Type 0) (S : B → B → Type 0) → ((a : A) → Q (f a) ↔ P a) → ((a c : A) → S (f a) (f c) ↔ R a c) → ((b : B) → (a : A) × (f a ≡ b))
      → (list : List A) → AreClasses P R list → AreClasses Q S (map f list)
  classes_map P Q R S same joins reach list h = record {
    each = λ b l. let r = listed_unmap f b list l in subst (λ y. Q y) (sym r.2) ((same r.0).1 (h.each r.0 r.1));
    found = λ b v.
        let r = reach b in
        let g = h.found r.0 ((same r.0).0 (subst (λ y. Q y) (sym r.1) v)) in
        (f g.0, listed_map f g.0 list g.1, subst (λ (y : B). S y (f g.0)) r.1 ((joins r.0 g.0).1 g.2));
    one = λ a b l m way.
        let i = listed_unmap f a list l in
        let j = listed_unmap f b list m in
        let first : S (f i.0) b = subst (λ y. S y b) i.2 way in
        let second : S (f i.0) (f j.0) = subst (λ y. S (f i.0) y) j.2 first in
        i.2 ∙ ap f (h.one i.0 j.0 i.1 j.1 ((joins i.0 j.0).0 second)) ∙ sym j.2;
    apart = apart_map list h.apart;
  }

  -- chains in the image of a set come from chains in the set
  pub chain_down : (R : A → A → Type 0) (S : B → B → Type 0) → ((b : B) → (a : A) × (f a ≡ b)) → ((a c : A) → S (f a) (f c) → R a c)
      → (a : A) (b : B) (via : List B) → IsChain S (f a) via b → (c : A) × (f c ≡ b) × Reaches R a c
  chain_down R S reach step a b [] h = (a, h, stays R a a refl)
  chain_down R S reach step a b (x ∷ xs) h =
      let r = reach x in
      let link : S (f a) (f r.0) = subst (λ y. S (f a) y) (sym r.1) h.0 in
      let rest = chain_down R S reach step r.0 b xs (subst (λ y. IsChain S y xs b) (sym r.1) h.1) in
      (rest.0, rest.1, prepend R a r.0 rest.0 (step a r.0 link) rest.2)
