-- The numbers of the global names that a circuit needs.
use Rattle.std.proofs.Common.{◌≡◌, inl, inr, ℕ, zero, suc, ◌+◌, ◌<◌, ◌==◌, Bool, true, false, ◌||◌, ◌&&◌, not, cond, List, [], ◌∷◌, ◌++◌, length, Option, Some, refl, sym, subst, ap, ◌∙◌, arith, true≢false}
use Rattle.base_laws.proofs.Tests.{or_assoc}
use Rattle.std.proofs.lemmas.Bool.{cases_Bool}
use Rattle.std.specs.Prelude.{flat_map, slice_get, slice_index_or, nat_lt, nat_eq}
use Rattle.std.specs.List.{filter, dedup, dedup_from}
use Rattle.std.specs.List.Sorted.{IsPermutation, IsStrictlyIncreasing}
use Rattle.std.specs.Str.{bytes_eq}
use Rattle.std.proofs.lemmas.Bool.Decides.{Decides-eqb}
use Rattle.std.proofs.lemmas.List.{append-nil}
use Rattle.std.proofs.lemmas.List.Folds.{list_any-append}
use Rattle.std.proofs.lemmas.List.Kept.{IsStrictlyIncreasing-filter}
use Rattle.std.proofs.lemmas.List.Sorted.{list_any-IsPermutation}
use Rattle.std.proofs.lemmas.Map.Views.{any-filter_same}
use Rattle.std.proofs.lemmas.Slice.Eq.{bytes_eq-Decides}
use Rattle.plain_netlist.specs.Lists.{AreApart}
use Rattle.text_table.specs.Texts.{has_text, place_of}
use Rattle.spice_rows.specs.Rows.{CallCard}
use Rattle.spice_text.specs.Gather.{Circuit}
use Rattle.spice_text.specs.Needs.{first_seen, device_nets, call_nets, used_nets}
use Rattle.spice_text.specs.Table.{has_number, with_number, with_numbers, with_calls, rows_of, is_not_pin, is_free, has_need, needed_below, IsNeedRow}
use Rattle.spice_text.proofs.NeedLemmas.{all_has, or_false}
use Rattle.spice_text.proofs.PinLemmas.{place_at}

-- ---- numbers of names one after another

pub numbers_append : (globals : List (List ℕ)) (out : List ℕ) (ns ms : List (List ℕ)) → with_numbers globals out (ns ++ ms) ≡ with_numbers globals (with_numbers globals out ns) ms
numbers_append globals out [] ms = refl
numbers_append globals out (n ∷ ns) ms = numbers_append globals (with_number globals out n) ns ms

numbers_calls : (globals : List (List ℕ)) (out : List ℕ) (rs : List CallCard) → with_calls globals out rs ≡ with_numbers globals out (flat_map call_nets rs)
numbers_calls globals out [] = refl
numbers_calls globals out (r ∷ rs) = numbers_calls globals (with_numbers globals out r.nets) rs ∙ sym (numbers_append globals out r.nets (flat_map call_nets rs))

pub numbers_used : (globals : List (List ℕ)) (c : Circuit) → with_calls globals (with_numbers globals [] (flat_map device_nets c.devices)) c.calls ≡ with_numbers globals [] (used_nets c)
numbers_used globals c = numbers_calls globals (with_numbers globals [] (flat_map device_nets c.devices)) c.calls ∙ sym (numbers_append globals [] (flat_map device_nets c.devices) (flat_map call_nets c.calls))

-- ---- which numbers there are

get_within : {A : Type 0} (xs : List A) (i : ℕ) (x : A) → slice_get xs i ≡ Some x → i < length xs
get_within [] i x e = let z : ⊥ = cc in absurd z
get_within (y ∷ ys) zero x e = omega arith
get_within (y ∷ ys) (suc i) x e = let l = get_within ys i x e in omega arith

-- the place of a text that is there has it
place_has : (xs : List (List ℕ)) (n : List ℕ) → place_of xs n < length xs → slice_get xs (place_of xs n) ≡ Some n
place_has [] n l = absurd (omega arith)
place_has (x ∷ xs) n l = elim (cases_Bool (bytes_eq n x)) [
  | inl t ↦ rw t (ap (λ (y : List ℕ). let o : Option (List ℕ) = Some y in o) (sym ((bytes_eq-Decides n x).0 t)))
  | inr f ↦
      let q : 1 + place_of xs n < suc (length xs) = subst (λ (b : Bool). cond (not b) (1 + place_of xs n) 0 < suc (length xs)) f l in
      let e : 1 + place_of xs n ≡ suc (place_of xs n) = omega arith in
      rw f (ap (λ (i : ℕ). slice_get (x ∷ xs) i) e ∙ place_has xs n (omega arith))
]

one_number : (globals : List (List ℕ)) (out : List ℕ) (n : List ℕ) (j : ℕ) (g : List ℕ) → AreApart globals → slice_get globals j ≡ Some g → has_number (with_number globals out n) j ≡ (has_number out j || bytes_eq g n)
one_number globals out n j g a is = elim (cases_Bool (bytes_eq g n)) [
  | inl t ↦ rw t (there ((bytes_eq-Decides g n).0 t))
  | inr f ↦ rw f (elim (cases_Bool (nat_lt (place_of globals n) (length globals))) [
    | inl l ↦ rw l (list_any-append (λ (i : ℕ). i == j) out (place_of globals n ∷ []) ∙ ap (λ (b : Bool). has_number out j || (b || false)) (other (grind (arith, l)) f))
    | inr m ↦ rw m (or_false (has_number out j))
  ])
]
  where
    there : g ≡ n → has_number (with_number globals out n) j ≡ (has_number out j || true)
    there e =
        let p : place_of globals n ≡ j = ap (λ (x : List ℕ). place_of globals x) (sym e) ∙ ap (λ (xs : List (List ℕ)). place_of xs g) (sym (append-nil globals)) ∙ place_at globals [] j g a is in
        let low = get_within globals j g is in
        let l : nat_lt (place_of globals n) (length globals) ≡ true = grind (arith, p, low) in
        let same : (place_of globals n == j) ≡ true = (Decides-eqb (place_of globals n) j).1 p in
        rw l (list_any-append (λ (i : ℕ). i == j) out (place_of globals n ∷ []) ∙ ap (λ (b : Bool). has_number out j || (b || false)) same)

    other : place_of globals n < length globals → bytes_eq g n ≡ false → (place_of globals n == j) ≡ false
    other l f = elim (cases_Bool (place_of globals n == j)) [
      | inl t ↦
          let p : place_of globals n ≡ j = (Decides-eqb (place_of globals n) j).0 t in
          let at : slice_get globals j ≡ Some n = subst (λ (i : ℕ). slice_get globals i ≡ Some n) p (place_has globals n l) in
          let e : g ≡ n = cc in
          absurd (true≢false (sym ((bytes_eq-Decides g n).1 e) ∙ f))
      | inr m ↦ m
    ]

many_numbers : (globals : List (List ℕ)) (out : List ℕ) (ns : List (List ℕ)) (j : ℕ) (g : List ℕ) → AreApart globals → slice_get globals j ≡ Some g → has_number (with_numbers globals out ns) j ≡ (has_number out j || has_text ns g)
many_numbers globals out [] j g a is = or_false (has_number out j)
many_numbers globals out (n ∷ ns) j g a is =
    many_numbers globals (with_number globals out n) ns j g a is ∙ ap (λ (b : Bool). b || has_text ns g) (one_number globals out n j g a is) ∙ or_assoc (has_number out j) (bytes_eq g n) (has_text ns g)

below_numbers : (rows : List (List ℕ)) (called : List ℕ) (j : ℕ) → has_number (rows_of rows called) j ≡ needed_below rows called j
below_numbers rows [] j = refl
below_numbers rows (b ∷ bs) j = list_any-append (λ (i : ℕ). i == j) (slice_index_or rows b []) (rows_of rows bs) ∙ ap (λ (x : Bool). has_need rows b j || x) (below_numbers rows bs j)

-- ---- sorted, each once

or_twice : (a b : Bool) → (a || b) ≡ (a || (a || b))
or_twice true b = refl
or_twice false b = refl

kept_from : (j k : ℕ) (xs : List ℕ) → has_number (dedup_from nat_eq k xs) j ≡ ((k == j) || has_number xs j)
kept_from j k [] = refl
kept_from j k (x ∷ xs) = elim (cases_Bool (nat_eq x k)) [
  | inl t ↦
      let e : x ≡ k = (Decides-eqb x k).0 t in
      rw t (kept_from j k xs ∙ or_twice (k == j) (has_number xs j) ∙ ap (λ (y : ℕ). (k == j) || ((y == j) || has_number xs j)) (sym e))
  | inr f ↦ rw f (ap (λ (b : Bool). (k == j) || b) (kept_from j x xs))
]

kept_numbers : (xs : List ℕ) (j : ℕ) → has_number (dedup nat_eq xs) j ≡ has_number xs j
kept_numbers [] j = refl
kept_numbers (x ∷ xs) j = kept_from j x xs

pub once_numbers : (xs sorted : List ℕ) → IsPermutation xs sorted → (j : ℕ) → has_number (dedup nat_eq sorted) j ≡ has_number xs j
once_numbers xs sorted p j = kept_numbers sorted j ∙ sym (list_any-IsPermutation (λ (i : ℕ). i == j) xs sorted p)

-- ---- less the pins

free_of : (globals : List (List ℕ)) (pins : List (List ℕ)) (j : ℕ) → is_free pins globals j ≡ true → j < length globals
free_of [] pins j e = let z : ⊥ = cc in absurd z
free_of (x ∷ xs) pins zero e = omega arith
free_of (x ∷ xs) pins (suc j) e = let l = free_of xs pins j e in omega arith

left_and : (a b : Bool) → (a && b) ≡ true → a ≡ true
left_and true b e = refl
left_and false b e = e

free_has : (pins globals : List (List ℕ)) (numbers : List ℕ) (j : ℕ) → has_number (filter (is_free pins globals) numbers) j ≡ (is_free pins globals j && has_number numbers j)
free_has pins globals numbers j = any-filter_same (λ (i : ℕ). i == j) (is_free pins globals) (is_free pins globals j) (λ k t. ap (λ (i : ℕ). is_free pins globals i) ((Decides-eqb k j).0 t)) numbers

pub need_is : (c : Circuit) (called : List ℕ) (rows globals : List (List ℕ)) (found numbers row : List ℕ) → AreApart globals → found ≡ with_numbers globals [] (used_nets c) ++ rows_of rows called
    → IsStrictlyIncreasing numbers → ((j : ℕ) → has_number numbers j ≡ has_number found j) → row ≡ filter (is_free (first_seen [] c.pins) globals) numbers → IsNeedRow c called rows globals row
need_is c called rows globals found numbers row a ef r same er = record {
  numbers = record {
    rising = subst IsStrictlyIncreasing (sym er) (IsStrictlyIncreasing-filter (is_free (first_seen [] c.pins) globals) numbers r);
    within = λ j h. free_of globals (first_seen [] c.pins) j (left_and _ (has_number numbers j) (sym (free_has (first_seen [] c.pins) globals numbers j) ∙ sym (ap (λ (xs : List ℕ). has_number xs j) er) ∙ h));
  };
  says = λ j g is.
      ap (λ (xs : List ℕ). has_number xs j) er
      ∙ free_has (first_seen [] c.pins) globals numbers j
      ∙ ap (λ (o : Option (List ℕ)). is_not_pin (first_seen [] c.pins) o && has_number numbers j) is
      ∙ ap (λ (b : Bool). not b && has_number numbers j) (all_has c.pins g)
      ∙ ap (λ (b : Bool). not (has_text c.pins g) && b) (same j ∙ ap (λ (xs : List ℕ). has_number xs j) ef
      ∙ list_any-append (λ (i : ℕ). i == j) (with_numbers globals [] (used_nets c)) (rows_of rows called)
      ∙ ap (λ (b : Bool). b || has_number (rows_of rows called) j) (many_numbers globals [] (used_nets c) j g a is)
      ∙ ap (λ (b : Bool). has_text (used_nets c) g || b) (below_numbers rows called j));
}
