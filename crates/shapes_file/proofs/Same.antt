-- Two lists of the same numbers, each number once, have one length and one sum.
use Rattle.std.proofs.Common.{◌≡◌, ◌⊎◌, inl, inr, ℕ, suc, ◌+◌, ◌<◌, List, [], ◌∷◌, length, get_or, slice_get, Some, refl, sym, ap, subst, ◌∙◌, arith}
use Rattle.std.specs.List.{sum_by}
use Rattle.std.proofs.lemmas.List.Sums.{sum_by-cons}
use Rattle.std.proofs.lemmas.Option.{slice_get_within, slice_get-get_or, get_or_from_slice_get}
use Rattle.flat_layout.specs.Layout.{Some_of, IsReached}
use Rattle.cell_graph.specs.Linked.{Linked, IsOrder, plain}
use Rattle.layout_shapes.specs.Written.{AreReached}
use Rattle.shapes_file.proofs.Lists.{at_some, contained, contains, once_rising, some_at}

abbrev In : ℕ → List ℕ → Type 0
In x xs = Some_of (λ y. y ≡ x) xs

abbrev Distinct : List ℕ → Type 0
Distinct [] = Unit {0}
Distinct (x ∷ xs) = (In x xs → ⊥) × Distinct xs

-- a list without one of its numbers
record IsWithout (f : ℕ → ℕ) (x : ℕ) (ys : List ℕ) : Type 0 where
  pub rest : List ℕ
  pub sum : sum_by f ys ≡ f x + sum_by f rest
  pub count : length ys ≡ suc (length rest)
  pub parts : (y : ℕ) → In y ys → (x ≡ y) ⊎ In y rest
  pub within : (y : ℕ) → In y rest → In y ys
  pub distinct : Distinct ys → Distinct rest × (In x rest → ⊥)

without : (f : ℕ → ℕ) (x : ℕ) (ys : List ℕ) → In x ys → IsWithout f x ys
without f x [] h = absurd h
without f x (y ∷ ys) (inl e) = record {
  rest = ys;
  sum = sum_by-cons f y ys ∙ ap (λ (z : ℕ). f z + sum_by f ys) e;
  count = refl;
  parts = λ z h. elim h [ inl g ↦ inl (sym e ∙ g) | inr g ↦ inr g ];
  within = λ z h. inr h;
  distinct = λ h. (h.1, λ g. h.0 (subst (λ (z : ℕ). In z ys) (sym e) g));
}
without f x (y ∷ ys) (inr h) =
    let w = without f x ys h in
    record {
      rest = y ∷ w.rest;
      sum = (let a = sum_by-cons f y ys in let b = sum_by-cons f y w.rest in let c = w.sum in omega (arith, a, b, c));
      count = ap suc w.count;
      parts = λ z h. elim h [ inl g ↦ inr (inl g) | inr g ↦ elim (w.parts z g) [ inl e ↦ inl e | inr i ↦ inr (inr i) ] ];
      within = λ z h. elim h [ inl g ↦ inl g | inr g ↦ inr (w.within z g) ];
      distinct = λ g.
          let below = w.distinct g.1 in (
            ((λ i. g.0 (w.within y i)), below.0),
            λ i. elim i [ inl e ↦ g.0 (subst (λ (z : ℕ). In z ys) (sym e) h) | inr k ↦ below.1 k ],
          );
    }

same : (f : ℕ → ℕ) (xs ys : List ℕ) → Distinct xs → Distinct ys → ((z : ℕ) → In z xs → In z ys) → ((z : ℕ) → In z ys → In z xs) → (sum_by f xs ≡ sum_by f ys) × (length xs ≡ length ys)
same f [] [] a b to from = (refl, refl)
same f [] (y ∷ ys) a b to from = absurd (from y (inl refl))
same f (x ∷ xs) ys a b to from =
    let w = without f x ys (to x (inl refl)) in
    let d = w.distinct b in
    let down : (z : ℕ) → In z xs → In z w.rest = λ z h. elim (w.parts z (to z (inr h))) [ inl e ↦ absurd (a.0 (subst (λ (n : ℕ). In n xs) (sym e) h)) | inr g ↦ g ] in
    let up : (z : ℕ) → In z w.rest → In z xs = λ z h. elim (from z (w.within z h)) [ inl e ↦ absurd (d.1 (subst (λ (n : ℕ). In n w.rest) (sym e) h)) | inr g ↦ g ] in
    let more = same f xs w.rest a.1 d.0 down up in (
      (let s = sum_by-cons f x xs in let t = w.sum in let m = more.0 in omega (arith, s, t, m)),
      ap suc more.1 ∙ sym w.count,
    )

distinct_once : (xs : List ℕ) → ((j k z : ℕ) → slice_get xs j ≡ Some z → slice_get xs k ≡ Some z → j ≡ k) → Distinct xs
distinct_once [] once = tt
distinct_once (x ∷ xs) once = (
  (λ h.
      let s = some_at (λ y. y ≡ x) xs h in
      let e : 0 ≡ suc s.0 = once 0 (suc s.0) x refl (s.2 ∙ ap (λ n. Some n) s.3) in
      omega (arith, e)),
  distinct_once xs (λ j k z a b. let e : suc j ≡ suc k = once (suc j) (suc k) z a b in omega (arith, e)),
)

at_in : (xs : List ℕ) (i z : ℕ) → slice_get xs i ≡ Some z → In z xs
at_in xs i z e = at_some (λ y. y ≡ z) xs i z e refl

in_at : (xs : List ℕ) (z : ℕ) → In z xs → (i : ℕ) × (slice_get xs i ≡ Some z)
in_at xs z h = let s = some_at (λ y. y ≡ z) xs h in (s.0, s.2 ∙ ap (λ n. Some n) s.3)

ordered_once : (d : Linked) → IsOrder d → (j k z : ℕ) → slice_get d.order j ≡ Some z → slice_get d.order k ≡ Some z → j ≡ k
ordered_once d order j k z a b = order.once j k (slice_get_within d.order j z a) (slice_get_within d.order k z b) (get_or_from_slice_get d.order j z 0 a ∙ sym (get_or_from_slice_get d.order k z 0 b))

ordered_reached : (d : Linked) → IsOrder d → (j z : ℕ) → slice_get d.order j ≡ Some z → IsReached (plain d) z
ordered_reached d order j z a = subst (λ (n : ℕ). IsReached (plain d) n) (get_or_from_slice_get d.order j z 0 a) (order.reached j (slice_get_within d.order j z a))

-- the reached cells by height, and by file order
pub same_cells : (d : Linked) (f : ℕ → ℕ) (ks : List ℕ) → IsOrder d → AreReached d ks → (sum_by f d.order ≡ sum_by f ks) × (length d.order ≡ length ks)
same_cells d f ks order are =
    same f d.order ks (distinct_once d.order (ordered_once d order)) (distinct_once ks (λ j k z a b. once_rising ks j k z are.ascending a b))
    (λ z h. let i = in_at d.order z h in let r = (are.each z).1 (ordered_reached d order i.0 z i.1) in let at = contained ks z r in at_in ks at.0 z at.1)
    (λ z h. let i = in_at ks z h in let r = order.all z ((are.each z).0 (contains ks i.0 z i.1)) in at_in d.order r.0 z (listed r.0 z r.1 r.2))
  where
    listed : (i z : ℕ) → i < length d.order → get_or d.order i 0 ≡ z → slice_get d.order i ≡ Some z
    listed i z lt e = slice_get-get_or d.order i 0 lt ∙ ap (λ n. Some n) e
