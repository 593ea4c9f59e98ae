-- Lists of tags in order, each once, and joined by commas.
use Rattle.std.proofs.Common.{◌≡◌, ◌↔◌, inl, inr, ℕ, suc, zero, ◌<◌, ◌+◌, List, [], ◌∷◌, ◌++◌, true, length, take, get_or, refl, sym, ◌∙◌, ap, subst, arith}
use Rattle.std.proofs.Math.Seq.{take-length}
use Rattle.std.proofs.lemmas.Bool.{false≢true}
use Rattle.std.proofs.lemmas.Cmp.{nat_list_cmp_total, nat_list_eq_equiv}
use Rattle.std.proofs.lemmas.List.{take_more}
use Rattle.std.proofs.lemmas.List.Kept.{Contains-dedup, Contains-from_dedup, IsStrictlySortedBy-dedup}
use Rattle.std.proofs.lemmas.List.Sorted.{Contains-permutation, IsPermutation-sym}
use Rattle.std.proofs.lemmas.Map.Keys.{sorted_head, sorted_tail}
use Rattle.std.proofs.lemmas.Map.Lookups.{exact_bytes}
use Rattle.std.specs.Cmp.Lexicographic.{pointwise, slice_cmp, texts_ties}
use Rattle.std.specs.List.{AllByRecursion, Contains, dedup}
use Rattle.std.specs.List.Sorted.{IsPermutation, IsSorted, IsStrictlySortedBy}
use Rattle.std.specs.Ordering.{is_eq, is_lt, nat_cmp}
use Rattle.std.specs.Prelude.{nat_eq}
use Rattle.std.specs.declared.cmp.Ordering.{Ordering}
use Rattle.std.specs.declared.cmp.Ordering.TheVariants.{Less, Equal, Greater}
use Rattle.plain_netlist.specs.Lists.{AreRising, IsListed}
use Rattle.flat_layout.specs.Pins.{IsTextBefore, with_commas}

pub listed_contains : {A : Type 0} (r : A) (xs : List A) → IsListed r xs → Contains xs r
listed_contains r [] h = absurd h
listed_contains r (x ∷ xs) (inl e) = (zero, omega arith, sym e)
listed_contains r (x ∷ xs) (inr h) = let c = listed_contains r xs h in let lt = c.1 in (suc c.0, omega arith, c.2)

at_listed : {A : Type 0} (xs : List A) (k : ℕ) (d : A) → k < length xs → IsListed (get_or xs k d) xs
at_listed [] k d lt = absurd (omega arith)
at_listed (x ∷ xs) zero d lt = inl refl
at_listed (x ∷ xs) (suc k) d lt = inr (at_listed xs k d (omega arith))

pub contains_listed : {A : Type 0} (r : A) (xs : List A) → Contains xs r → IsListed r xs
contains_listed {A} r xs c = subst (λ (q : A). IsListed q xs) c.2 (at_listed xs c.0 r c.1)

equal_order : (o : Ordering) → is_eq o ≡ true → o ≡ Equal
equal_order Less e = absurd (false≢true e)
equal_order Equal e = refl
equal_order Greater e = absurd (false≢true e)

same_tag : (x y : List ℕ) → pointwise nat_eq x y ≡ true → x ≡ y
same_tag x y e = exact_bytes x y (equal_order (slice_cmp nat_cmp x y) (sym (texts_ties x y) ∙ e))

-- a sorted list without repeats has the elements of the list
pub each_once : (xs sorted : List (List ℕ)) → IsPermutation xs sorted → (s : List ℕ) → IsListed s (dedup (pointwise nat_eq) sorted) ↔ IsListed s xs
each_once xs sorted p s = (
  (λ h. contains_listed s xs (Contains-permutation sorted xs s (IsPermutation-sym xs sorted p) (Contains-from_dedup (pointwise nat_eq) sorted s (listed_contains s (dedup (pointwise nat_eq) sorted) h)))),
  (λ h. contains_listed s (dedup (pointwise nat_eq) sorted) (Contains-dedup nat_list_eq_equiv same_tag sorted s (Contains-permutation xs sorted s p (listed_contains s xs h)))),
)

before_all : (x : List ℕ) (xs : List (List ℕ)) → AllByRecursion (λ y. slice_cmp nat_cmp x y ≡ Less) xs → (y : List ℕ) → IsListed y xs → IsTextBefore x y
before_all x [] h y m = absurd m
before_all x (z ∷ zs) h y (inl e) = ap is_lt (ap (slice_cmp nat_cmp x) e ∙ h.0)
before_all x (z ∷ zs) h y (inr m) = before_all x zs h.1 y m

rising : (xs : List (List ℕ)) → IsStrictlySortedBy (slice_cmp nat_cmp) xs → AreRising IsTextBefore xs
rising [] h = tt
rising (x ∷ xs) h = (before_all x xs (sorted_head (slice_cmp nat_cmp) x xs h), rising xs (sorted_tail (slice_cmp nat_cmp) x xs h))

-- and rises
pub rising_once : (sorted : List (List ℕ)) → IsSorted (slice_cmp nat_cmp) sorted → AreRising IsTextBefore (dedup (pointwise nat_eq) sorted)
rising_once sorted h = rising (dedup (pointwise nat_eq) sorted) (IsStrictlySortedBy-dedup nat_list_cmp_total texts_ties sorted h)

append_assoc : (a b c : List ℕ) → (a ++ b) ++ c ≡ a ++ (b ++ c)
append_assoc [] b c = refl
append_assoc (u ∷ a) b c = ap (λ (r : List ℕ). u ∷ r) (append_assoc a b c)

commas_push : (x : List ℕ) (xs : List (List ℕ)) (y : List ℕ) → with_commas ((x ∷ xs) ++ y ∷ []) ≡ with_commas (x ∷ xs) ++ 44 ∷ y
commas_push x [] y = refl
commas_push x (z ∷ zs) y = ap (λ (r : List ℕ). x ++ 44 ∷ r) (commas_push z zs y) ∙ sym (append_assoc x (44 ∷ with_commas (z ∷ zs)) (44 ∷ y))

commas_some : (xs : List (List ℕ)) (y : List ℕ) → 0 < length xs → with_commas (xs ++ y ∷ []) ≡ with_commas xs ++ 44 ∷ y
commas_some [] y lt = absurd (omega arith)
commas_some (x ∷ xs) y lt = commas_push x xs y

taken : (xs : List (List ℕ)) (i : ℕ) → i < length xs → 0 < i → 0 < length (take i xs)
taken [] i lt some = absurd (omega arith)
taken (x ∷ xs) zero lt some = absurd (omega arith)
taken (x ∷ xs) (suc i) lt some = omega arith

-- a comma and one tag more
pub commas_more : (xs : List (List ℕ)) (i : ℕ) (tag text new : List ℕ) → i < length xs → 0 < i → tag ≡ get_or xs i tag → text ≡ with_commas (take i xs) → new ≡ (text ++ 44 ∷ []) ++ tag → new ≡ with_commas (take (i + 1) xs)
commas_more xs i tag text new lt some at before added =
    added ∙ append_assoc text (44 ∷ []) tag ∙ ap (λ (r : List ℕ). r ++ 44 ∷ tag) before ∙ sym (commas_some (take i xs) tag (taken xs i lt some))
    ∙ ap (λ (t : List ℕ). with_commas (take i xs ++ t ∷ [])) at ∙ sym (ap with_commas (take_more xs i tag lt))

-- the first tag
pub commas_first : (xs : List (List ℕ)) (i : ℕ) (tag text new : List ℕ) → i < length xs → (0 < i → ⊥) → tag ≡ get_or xs i tag → text ≡ with_commas (take i xs) → new ≡ text ++ tag → new ≡ with_commas (take (i + 1) xs)
commas_first [] i tag text new lt none at before added = absurd (omega arith)
commas_first (x ∷ xs) zero tag text new lt none at before added = added ∙ ap (λ (r : List ℕ). r ++ tag) before ∙ at
commas_first (x ∷ xs) (suc i) tag text new lt none at before added = absurd (none (omega arith))

pub commas_all : (xs : List (List ℕ)) (n : ℕ) → n ≡ length xs → with_commas (take n xs) ≡ with_commas xs
commas_all xs n e = ap with_commas (ap (λ k. take k xs) e ∙ take-length xs)
