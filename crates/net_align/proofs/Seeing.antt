-- Numbers in the order of first sight, and what is among them.
use Rattle.std.proofs.Common.{◌≡◌, ◌≢◌, ◌⊎◌, inl, inr, ℕ, zero, suc, ◌<◌, Bool, true, false, cond, List, [], ◌∷◌, ◌++◌, length, map, replicate, get_or, Option, Some, None, slice_get, refl, sym, ◌∙◌, ap, ap₂, subst, arith, true≢false, append_assoc, append-nil}
use Rattle.base_laws.proofs.Items.{push_cases, get_last, push_old}
use Rattle.std.proofs.lemmas.Bool.{cases_Bool}
use Rattle.std.specs.Prelude.{slice_set, slice_index, slice_index_or, ◌==◌, flat_map, filter, is_none, unwrap_or}
use Rattle.std.specs.Global.{Vec}
use Rattle.std.proofs.Math.Decide.{ℕ_discrete}
use Rattle.std.proofs.lemmas.Bool.Decides.{Decides-eqb}
use Rattle.std.proofs.lemmas.List.{get_or-set_same, get_or-set_other, length-set, length-replicate}
use Rattle.std.proofs.lemmas.Option.{none-some, slice_get_within, slice_get-get_or}
use Rattle.plain_netlist.specs.Lists.{IsListed}
use Rattle.plain_netlist.proofs.Members.{listed, position, in_left, in_right}
use Rattle.net_model.proofs.FirstLemmas.{any_listed, any_has}
use Rattle.call_order.specs.Order.{lists}
use Rattle.net_align.specs.Laid.{AreBelow}
use Rattle.net_align.specs.Marks.{marked}
use Rattle.net_align.specs.Sights.{has_number, with_first, firsts_from, IsNumbering, place_in, new_of}
use Rattle.net_align.proofs.Marking.{marked_is, marked_or, none_set}

pub has_listed : (xs : List ℕ) (n : ℕ) → IsListed n xs → has_number xs n ≡ true
has_listed xs n h = any_listed (λ x. n == x) xs n h ((Decides-eqb n n).1 refl)

pub listed_has : (xs : List ℕ) (n : ℕ) → has_number xs n ≡ true → IsListed n xs
listed_has xs n e =
    let r = any_has (λ x. n == x) xs e in
    subst (λ (y : ℕ). IsListed y xs) (sym ((Decides-eqb n r.0).0 r.2)) r.1

-- marks say the same
pub marks_tell : (nets : List ℕ) (count p : ℕ) → AreBelow nets count → slice_index_or (marked nets (replicate count false)) p false ≡ has_number nets p
marks_tell nets count p low = elim (cases_Bool (has_number nets p)) [
  | inl t ↦
      let h = listed_has nets p t in
      let q = position nets p h in
      let l = slice_get_within nets q.0 p q.1 in
      let s : Some (slice_index nets q.0) ≡ Some p = sym (slice_get-get_or nets q.0 0 l) ∙ q.1 in
      let e : slice_index nets q.0 ≡ p = cc in
      let b : p < count = subst (λ (y : ℕ). y < count) e (low q.0 l) in
      let long = length-replicate count false in
      marked_is nets (replicate count false) p (omega (arith, b, long)) h ∙ sym t
  | inr f ↦ elim (cases_Bool (slice_index_or (marked nets (replicate count false)) p false)) [
    | inl t ↦ elim (marked_or nets (replicate count false) p t) [
      | inl h ↦ absurd (true≢false (sym (has_listed nets p h) ∙ f))
      | inr none ↦ absurd (none_set count p none)
    ]
    | inr g ↦ g ∙ sym f
  ]
]

pub firsts_more : (xs seen : List ℕ) (x : ℕ) → firsts_from seen (xs ++ x ∷ []) ≡ with_first (firsts_from seen xs) x
firsts_more [] seen x = refl
firsts_more (y ∷ xs) seen x = firsts_more xs (with_first seen y) x

-- ---- a table of places

module _ (old : List ℕ) (count : ℕ) (new : List (Option ℕ)) (h : IsNumbering old count new) (n : ℕ) where
  pub seen_before : (k : ℕ) → slice_index_or new n None ≡ Some k → with_first old n ≡ old
  seen_before k e = let t = has_listed old n (listed old k n (h.back n k e)) in rw t refl

  fresh : slice_index_or new n None ≡ None → has_number old n ≡ false
  fresh e = elim (cases_Bool (has_number old n)) [
    | inl t ↦ let q = position old n (listed_has old n t) in absurd (none-some q.0 (sym e ∙ h.there q.0 n q.1))
    | inr f ↦ f
  ]

  pub seen_first : slice_index_or new n None ≡ None → with_first old n ≡ old ++ n ∷ []
  seen_first e = let f = fresh e in rw f refl

  pub numbered_more : n < count → slice_index_or new n None ≡ None → IsNumbering (old ++ n ∷ []) count (slice_set new n (Some (length old)))
  numbered_more low e =
      let l : n < length new = let k = h.long in omega (arith, low, k) in record {
        long = length-set new n (Some (length old)) ∙ h.long;
        there = λ k m at. elim (push_cases old n m k at) [
          | inl was ↦
              let other : m ≢ n = λ same. none-some k (sym (ap (λ (y : ℕ). slice_index_or new y None) same ∙ e) ∙ h.there k m was) in
              get_or-set_other new n m (Some (length old)) None other ∙ h.there k m was
          | inr is ↦
              ap (λ (y : ℕ). slice_index_or (slice_set new n (Some (length old))) y None) (sym is.1)
              ∙ (get_or-set_same new n (Some (length old)) None l ∙ ap Some (sym is.0))
        ];
        back = λ m k at. elim (ℕ_discrete m n) [
          | yes same ↦
              let v : slice_index_or (slice_set new n (Some (length old))) m None ≡ Some (length old)
              = ap (λ (y : ℕ). slice_index_or (slice_set new n (Some (length old))) y None) same ∙ get_or-set_same new n (Some (length old)) None l in
              let s : Some (length old) ≡ Some k = sym v ∙ at in
              let i : length old ≡ k = cc in
              subst (λ (y : ℕ). slice_get (old ++ n ∷ []) y ≡ Some m) i (get_last old n ∙ ap Some (sym same))
          | no not ↦ push_old old n m k (h.back m k (sym (get_or-set_other new n m (Some (length old)) None not) ∙ at))
        ];
      }

-- the list at a place of a table of lists
pub lists_at : (rows : List (Vec ℕ)) (c : ℕ) (v : Vec ℕ) → c < length rows → v ≡ get_or rows c v → slice_index_or (lists rows) c [] ≡ v.items
lists_at [] c v low e = absurd (let l = low in omega arith)
lists_at (r ∷ rows) zero v low e = ap (λ (x : Vec ℕ). x.items) (sym e)
lists_at (r ∷ rows) (suc c) v low e = lists_at rows c v (let l = low in omega arith) e

pub flat_more : {A B : Type 0} (f : A → List B) (xs : List A) (x : A) → flat_map f (xs ++ x ∷ []) ≡ flat_map f xs ++ f x
flat_more f [] x = append-nil (f x)
flat_more {B = B} f (y ∷ xs) x = ap (λ (t : List B). f y ++ t) (flat_more f xs x) ∙ sym (append_assoc (f y) (flat_map f xs) (f x))

pub filter_more : (p : ℕ → Bool) (xs : List ℕ) (x : ℕ) → filter p (xs ++ x ∷ []) ≡ filter p xs ++ cond (p x) (x ∷ []) []
filter_more p [] x = elim (cases_Bool (p x)) [ inl t ↦ rw t refl | inr f ↦ rw f refl ]
filter_more p (y ∷ xs) x = elim (cases_Bool (p y)) [
  | inl t ↦ rw t (ap (λ (r : List ℕ). y ∷ r) (filter_more p xs x))
  | inr f ↦ rw f (filter_more p xs x)
]

pub some_of : (o : Option ℕ) → is_none o ≡ false → (k : ℕ) × (o ≡ Some k)
some_of None e = absurd (true≢false e)
some_of (Some k) e = (k, refl)

pub none_of : (o : Option ℕ) → is_none o ≡ true → o ≡ None
none_of None e = refl
none_of (Some k) e = absurd (true≢false (sym e))

some_low : (xs : List (Option ℕ)) (m k : ℕ) → slice_index_or xs m None ≡ Some k → m < length xs
some_low [] zero k e = absurd (none-some k e)
some_low [] (suc m) k e = absurd (none-some k e)
some_low (x ∷ xs) zero k e = omega arith
some_low (x ∷ xs) (suc m) k e = let l = some_low xs m k e in omega arith

pub numbered_low : (old : List ℕ) (count : ℕ) (new : List (Option ℕ)) → IsNumbering old count new → AreBelow old count
numbered_low old count new h i low =
    let l = some_low new (slice_index old i) i (h.there i (slice_index old i) (slice_get-get_or old i 0 low)) in
    let k = h.long in omega (arith, l, k)

pub first_in : (xs seen : List ℕ) (n : ℕ) → IsListed n seen ⊎ IsListed n xs → IsListed n (firsts_from seen xs)
first_in [] seen n (inl h) = h
first_in [] seen n (inr h) = absurd h
first_in (x ∷ xs) seen n (inl h) = first_in xs (with_first seen x) n (inl (elim (cases_Bool (has_number seen x)) [
  | inl t ↦ rw t h
  | inr f ↦ rw f (in_left seen (x ∷ []) n h)
]))
first_in (x ∷ xs) seen n (inr (inl e)) = first_in xs (with_first seen x) n (inl (elim (cases_Bool (has_number seen x)) [
  | inl t ↦ rw t (subst (λ (y : ℕ). IsListed y seen) (sym e) (listed_has seen x t))
  | inr f ↦ rw f (in_right seen (x ∷ []) n (inl e))
]))
first_in (x ∷ xs) seen n (inr (inr h)) = first_in xs (with_first seen x) n (inr h)

pub place_there : (xs : List ℕ) (n : ℕ) → IsListed n xs → slice_get xs (place_in xs n) ≡ Some n
place_there [] n h = absurd h
place_there (x ∷ xs) n h = elim (cases_Bool (n == x)) [
  | inl t ↦ let e : n ≡ x = (Decides-eqb n x).0 t in
      let z : place_in (x ∷ xs) n ≡ 0 = rw t refl in
      ap (λ (k : ℕ). slice_get (x ∷ xs) k) z ∙ ap Some (sym e)
  | inr f ↦
      let z : place_in (x ∷ xs) n ≡ suc (place_in xs n) = rw f refl in
      let behind : IsListed n xs = elim h [
        | inl e ↦ absurd (true≢false (sym ((Decides-eqb n x).1 e) ∙ f))
        | inr r ↦ r
      ] in
      ap (λ (k : ℕ). slice_get (x ∷ xs) k) z ∙ place_there xs n behind
]

-- what the table has for a number of the list is its place
pub new_is_place : (old : List ℕ) (count : ℕ) (new : List (Option ℕ)) → IsNumbering old count new → (n : ℕ) → IsListed n old → new_of new n ≡ place_in old n
new_is_place old count new h n l = ap (λ (o : Option ℕ). unwrap_or o 0) (h.there (place_in old n) n (place_there old n l))

pub map_on : {A B : Type 0} (f g : A → B) (xs : List A) → ((x : A) → IsListed x xs → f x ≡ g x) → map f xs ≡ map g xs
map_on f g [] h = refl
map_on {B = B} f g (x ∷ xs) h = ap₂ (λ (y : B) (ys : List B). y ∷ ys) (h x (inl refl)) (map_on f g xs (λ y l. h y (inr l)))

pub flat_map_on : {A B : Type 0} (f g : A → List B) (xs : List A) → ((x : A) → IsListed x xs → f x ≡ g x) → flat_map f xs ≡ flat_map g xs
flat_map_on f g [] h = refl
flat_map_on {B = B} f g (x ∷ xs) h = ap₂ (λ (y ys : List B). y ++ ys) (h x (inl refl)) (flat_map_on f g xs (λ y l. h y (inr l)))
