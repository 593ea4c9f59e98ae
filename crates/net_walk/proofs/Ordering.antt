-- Pairs of placements in another order, each once.
use Rattle.std.proofs.Common.{◌≡◌, inl, inr, ℕ, zero, suc, ◌+◌, ◌<◌, List, [], ◌∷◌, ◌++◌, Some, slice_get, get_or, length, take, sym, ◌∙◌, ap, subst, arith}
use Rattle.std.specs.Prelude.{Contains}
use Rattle.std.specs.List.Sorted.{IsPermutation}
use Rattle.std.proofs.Math.Seq.{take-length}
use Rattle.std.proofs.lemmas.List.{take_more}
use Rattle.std.proofs.lemmas.List.Elements.{Contains-append_left, Contains-push, Contains-push_cases}
use Rattle.std.proofs.lemmas.List.Sorted.{Contains-permutation, IsPermutation-sym}
use Rattle.link_classes.specs.Classes.{IsLinked, IsOf}
use Rattle.link_classes.specs.declared.classes.Link.{Link}
use Rattle.net_walk.proofs.Pairing.{linked_left, linked_right}
use Rattle.net_walk.proofs.Spanning.{linked_cut, no_link}
use Rattle.net_walk.specs.Alike.{AreLain, IsLain, link_of}
use Rattle.net_walk.specs.declared.lyings.Lying.{Lying}
use Rattle.touching_pieces.proofs.Links.{added_both, added_none, linked_back}
use Rattle.touching_pieces.specs.Pairs.{AddsLinks}

has_more : (ls : List Lying) (l m : Lying) → Contains ls m → Contains (ls ++ l ∷ []) m
has_more ls l m h = Contains-append_left ls (l ∷ []) m h

pub none_lain : (pairs : List Link) → AreLain (take 0 pairs) []
none_lain pairs = record { each = λ l h. absurd (omega (arith, h.1)); found = λ i j h. absurd h }

pub lain_more : (pairs : List Link) (n : ℕ) (ls : List Lying) (l : Lying) → n < length pairs → AreLain (take n pairs) ls → IsOf (link_of l) (get_or pairs n no_link).one (get_or pairs n no_link).other → AreLain (take (n + 1) pairs) (ls ++ l ∷ [])
lain_more pairs n ls l lt h is =
    let p = get_or pairs n no_link in
    let ps = take n pairs in
    let now : AreLain (ps ++ p ∷ []) (ls ++ l ∷ []) = record {
      each = λ m k. elim (Contains-push_cases ls l m k) [
        | inl a ↦ linked_left ps (p ∷ []) m.one m.other (h.each m a)
        | inr e ↦ subst (λ (o : Lying). IsLinked (ps ++ p ∷ []) o.one o.other) e (linked_right ps (p ∷ []) l.one l.other (inl (turned p l is)))
      ];
      found = λ i j k. elim (linked_cut ps p i j k) [
        | inl a ↦ (let f = h.found i j a in (f.0, has_more ls l f.0 f.1, f.2))
        | inr b ↦ (l, Contains-push ls l, along p l is i j b)
      ];
    } in
    subst (λ (m : List Link). AreLain m (ls ++ l ∷ [])) (sym (take_more pairs n no_link lt)) now
  where
    turned : (p : Link) (l : Lying) → IsOf (link_of l) p.one p.other → IsOf p l.one l.other
    turned p l (inl e) = inl (sym e.0, sym e.1)
    turned p l (inr e) = inr (sym e.1, sym e.0)

    along : (p : Link) (l : Lying) → IsOf (link_of l) p.one p.other → (i j : ℕ) → IsOf p i j → IsOf (link_of l) i j
    along p l (inl e) i j (inl f) = inl (e.0 ∙ f.0, e.1 ∙ f.1)
    along p l (inl e) i j (inr f) = inr (e.0 ∙ f.0, e.1 ∙ f.1)
    along p l (inr e) i j (inl f) = inr (e.0 ∙ f.1, e.1 ∙ f.0)
    along p l (inr e) i j (inr f) = inl (e.0 ∙ f.1, e.1 ∙ f.0)

pub lain_all : (pairs : List Link) (n : ℕ) (ls : List Lying) → n ≡ length pairs → AreLain (take n pairs) ls → AreLain pairs ls
lain_all pairs n ls e h = subst (λ (m : List Link). AreLain m ls) (ap (λ i. take i pairs) e ∙ take-length pairs) h

pub lain_sorted : (pairs : List Link) (old new : List Lying) → IsPermutation old new → AreLain pairs old → AreLain pairs new
lain_sorted pairs old new moved h = record {
  each = λ l k. h.each l (Contains-permutation new old l (IsPermutation-sym old new moved) k);
  found = λ i j k. let f = h.found i j k in (f.0, Contains-permutation old new f.0 moved f.1, f.2);
}

abbrev pub IsThis : Lying → ℕ → ℕ → Type 0
IsThis l i j = (l.one ≡ i) × (l.other ≡ j)

pub known_link : (l : Lying) (ls : List Link) → IsLinked ls l.one l.other → AddsLinks (IsThis l) ls ls
known_link l ls h = record {
  kept = λ i j k. k;
  each = λ i j k. inl k;
  found = λ i j k. inr (subst (λ n. IsLinked ls n j) k.0 (subst (λ n. IsLinked ls l.one n) k.1 h));
}

pub none_once : (ls : List Lying) → AddsLinks (IsLain (take 0 ls)) [] []
none_once ls = added_none (IsLain (take 0 ls)) [] (λ i j h. absurd (let c = h.1 in let b = c.1 in let z : ⊥ = omega (arith, b) in z))

pub once_more : (ls : List Lying) (n : ℕ) (o : Lying) (mid new : List Link) → n < length ls → AddsLinks (IsLain (take n ls)) [] mid → AddsLinks (IsThis (get_or ls n o)) mid new → AddsLinks (IsLain (take (n + 1) ls)) [] new
once_more ls n o mid new lt h g =
    let l = get_or ls n o in
    let ks = take n ls in
    let now : AddsLinks (IsLain (ks ++ l ∷ [])) [] new = added_both (IsLain ks) (IsThis l) (IsLain (ks ++ l ∷ [])) [] mid new h g
    (λ i j r. (r.0, has_more ks l r.0 r.1, r.2, r.3))
    (λ i j s. (l, Contains-push ks l, s.0, s.1))
    (λ i j r. elim (Contains-push_cases ks l r.0 r.1) [
      | inl a ↦ inl (r.0, a, r.2, r.3)
      | inr e ↦ inr (ap (λ (m : Lying). m.one) e ∙ r.2, ap (λ (m : Lying). m.other) e ∙ r.3)
    ]) in
    subst (λ (m : List Lying). AddsLinks (IsLain m) [] new) (sym (take_more ls n o lt)) now

pub once_all : (ls : List Lying) (n : ℕ) (new : List Link) → n ≡ length ls → AddsLinks (IsLain (take n ls)) [] new → AddsLinks (IsLain ls) [] new
once_all ls n new e h = subst (λ (m : List Lying). AddsLinks (IsLain m) [] new) (ap (λ i. take i ls) e ∙ take-length ls) h

-- entries for pairs, each once, are the pairs
pub same_pairs : (pairs : List Link) (ls : List Lying) (new : List Link) → AreLain pairs ls → AddsLinks (IsLain ls) [] new → AddsLinks (IsLinked pairs) [] new
same_pairs pairs ls new lain h = record {
  kept = λ i j k. absurd k;
  each = λ i j k. elim (h.each i j k) [
    | inl a ↦ inl a
    | inr b ↦ inr (elim b [ inl r ↦ inl (of_entry i j r) | inr r ↦ inr (of_entry j i r) ])
  ];
  found = λ i j k.
      let f = lain.found i j k in
      elim f.2 [
        | inl e ↦ h.found i j (f.0, f.1, e.0, e.1)
        | inr e ↦ elim (h.found j i (f.0, f.1, e.0, e.1)) [ inl s ↦ inl (sym s) | inr m ↦ inr (linked_back new j i m) ]
      ];
}
  where
    of_entry : (i j : ℕ) → IsLain ls i j → IsLinked pairs i j
    of_entry i j r = subst (λ n. IsLinked pairs n j) r.2 (subst (λ n. IsLinked pairs r.0.one n) r.3 (lain.each r.0 r.1))

-- links for a relation, taken once, are links for it
pub added_once : (R : ℕ → ℕ → Type 0) (pairs new : List Link) → AddsLinks R [] pairs → AddsLinks (IsLinked pairs) [] new → AddsLinks R [] new
added_once R pairs new h g = record {
  kept = λ i j k. absurd k;
  each = λ i j k. elim (g.each i j k) [
    | inl a ↦ absurd a
    | inr b ↦ h.each i j (elim b [ inl a ↦ a | inr a ↦ linked_back pairs j i a ])
  ];
  found = λ i j r. elim (h.found i j r) [ inl e ↦ inl e | inr m ↦ g.found i j m ];
}

abbrev pub no_lying : Lying
no_lying = record { way = 0; one = 0; other = 0 }

pub linked_by : (ls : List Link) (k : ℕ) (l : Link) (i j : ℕ) → slice_get ls k ≡ Some l → IsOf l i j → IsLinked ls i j
linked_by [] k l i j at is = cc
linked_by (m ∷ ls) zero l i j at is = let e : m ≡ l = (let f : Some m ≡ Some l = at in cc) in inl (subst (λ (o : Link). IsOf o i j) (sym e) is)
linked_by (m ∷ ls) (suc k) l i j at is = inr (linked_by ls k l i j at is)
