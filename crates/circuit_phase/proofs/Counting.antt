-- Nets numbered one by one.
use Rattle.std.proofs.Common.{◌≡◌, ◌⊎◌, inl, inr, ℕ, zero, suc, ◌<◌, ◌==◌, Bool, true, false, List, [], ◌∷◌, ◌++◌, Option, Some, None, get_or, slice_get, slice_set, length, refl, sym, ◌∙◌, ap, subst, arith}
use Rattle.std.specs.Prelude.{if◌then◌else◌}
use Rattle.std.proofs.Math.Decide.{ℕ_discrete}
use Rattle.std.proofs.lemmas.Bool.{eq-eqb, eqb-true, cases_Bool, or_cases, or_right, or_left, false≢true}
use Rattle.std.proofs.lemmas.Option.{same_Some, slice_get_within, slice_get-get_or, none-some}
use Rattle.plain_netlist.proofs.Members.{position}
use Rattle.plain_netlist.specs.Lists.{AreApart}
use Rattle.circuit_phase.specs.Numbered.{AreNumbers, numbered_seen}
use Rattle.circuit_phase.specs.Numbering.{Numbered, has_net, with_net}
use Rattle.circuit_phase.specs.declared.numbering.Numbering.TheInside.{Inside}

-- what was read of a net's number
pub number_at : (a : Inside) (z : Numbered) (net : ℕ) (read is : Option ℕ) → numbered_seen a ≡ z → net < z.count → read ≡ get_or a.numbers.items net read → read ≡ is
    → slice_get a.numbers.items net ≡ Some is
number_at a z net read is seen lt at e =
    let within : net < length a.numbers.items = subst (λ (v : Numbered). net < v.count) (sym seen) lt in
    slice_get-get_or a.numbers.items net read within ∙ ap (λ (o : Option ℕ). Some o) (sym at ∙ e)

found : (nets : List ℕ) (x i : ℕ) → slice_get nets i ≡ Some x → has_net nets x ≡ true
found [] x i h = absurd (none-some x h)
found (y ∷ nets) x zero h = or_left (y == x) (has_net nets x) (eq-eqb y x (same_Some y x h))
found (y ∷ nets) x (suc i) h = or_right (y == x) (has_net nets x) (found nets x i h)

place : (nets : List ℕ) (x : ℕ) → has_net nets x ≡ true → (i : ℕ) × (slice_get nets i ≡ Some x)
place [] x h = absurd (false≢true h)
place (y ∷ nets) x h = elim (or_cases (y == x) (has_net nets x) h) [
  | inl e ↦ (0, ap (λ (z : ℕ). Some z) (eqb-true y x e))
  | inr e ↦ let r = place nets x e in (suc r.0, r.1)
]

last_at : (nets : List ℕ) (x : ℕ) → slice_get (nets ++ x ∷ []) (length nets) ≡ Some x
last_at [] x = refl
last_at (y ∷ nets) x = last_at nets x

first_at : (nets : List ℕ) (x i y : ℕ) → slice_get nets i ≡ Some y → slice_get (nets ++ x ∷ []) i ≡ Some y
first_at [] x i y h = absurd (none-some y h)
first_at (z ∷ nets) x zero y h = h
first_at (z ∷ nets) x (suc i) y h = first_at nets x i y h

pub at_first : (nets : List ℕ) (x i y : ℕ) → slice_get (nets ++ x ∷ []) i ≡ Some y → (slice_get nets i ≡ Some y) ⊎ ((i ≡ length nets) × (x ≡ y))
at_first [] x zero y h = inr (refl, same_Some x y h)
at_first [] x (suc i) y h = absurd (none-some y h)
at_first (z ∷ nets) x zero y h = inl h
at_first (z ∷ nets) x (suc i) y h = elim (at_first nets x i y h) [
  | inl e ↦ inl e
  | inr e ↦ inr ((let f = e.0 in omega (arith, f)), e.1)
]

set_here : (xs : List (Option ℕ)) (k : ℕ) (v : Option ℕ) → k < length xs → slice_get (slice_set xs k v) k ≡ Some v
set_here [] k v h = absurd (omega arith)
set_here (x ∷ xs) zero v h = refl
set_here (x ∷ xs) (suc k) v h = set_here xs k v (omega arith)

set_other : (xs : List (Option ℕ)) (k : ℕ) (v : Option ℕ) (j : ℕ) → (j ≡ k → ⊥) → slice_get (slice_set xs k v) j ≡ slice_get xs j
set_other [] k v j h = refl
set_other (x ∷ xs) zero v zero h = absurd (h refl)
set_other (x ∷ xs) zero v (suc j) h = refl
set_other (x ∷ xs) (suc k) v zero h = refl
set_other (x ∷ xs) (suc k) v (suc j) h = set_other xs k v j (λ e. h (ap suc e))

pub with_old : (numbers : List (Option ℕ)) (nets : List ℕ) (x n : ℕ) → AreNumbers numbers nets → slice_get numbers x ≡ Some (Some n) → nets ≡ with_net nets x
with_old numbers nets x n are h = sym (ap (λ (b : Bool). if b then nets else nets ++ x ∷ []) (found nets x n (are.stands x n h)))

no_number : (numbers : List (Option ℕ)) (nets : List ℕ) (x : ℕ) → AreNumbers numbers nets → slice_get numbers x ≡ Some None → has_net nets x ≡ false
no_number numbers nets x are h = elim (cases_Bool (has_net nets x)) [
  | inl e ↦ let r = place nets x e in absurd (none-some r.0 (same_Some None (Some r.0) (sym h ∙ are.has x r.0 r.1)))
  | inr e ↦ e
]

pub with_new : (numbers : List (Option ℕ)) (nets : List ℕ) (x : ℕ) → AreNumbers numbers nets → slice_get numbers x ≡ Some None → nets ++ x ∷ [] ≡ with_net nets x
with_new numbers nets x are h = sym (ap (λ (b : Bool). if b then nets else nets ++ x ∷ []) (no_number numbers nets x are h))

pub at_last : (nets : List ℕ) (x n : ℕ) → n ≡ length nets → slice_get (nets ++ x ∷ []) n ≡ Some x
at_last nets x n e = subst (λ (k : ℕ). slice_get (nets ++ x ∷ []) k ≡ Some x) (sym e) (last_at nets x)

pub numbered_more : (numbers : List (Option ℕ)) (nets : List ℕ) (x n : ℕ) → AreNumbers numbers nets → slice_get numbers x ≡ Some None → n ≡ length nets → AreNumbers (slice_set numbers x (Some n)) (nets ++ x ∷ [])
numbered_more numbers nets x n are h e = record {
  stands = λ y i g. elim (ℕ_discrete y x) [
    | yes f ↦
        let here : Some (Some n) ≡ Some (Some i) = sym (set_here numbers x (Some n) (slice_get_within numbers x None h)) ∙ sym (ap (λ (k : ℕ). slice_get (slice_set numbers x (Some n)) k) f) ∙ g in
        let is : n ≡ i = same_Some n i (same_Some (Some n) (Some i) here) in
        subst (λ (k : ℕ). slice_get (nets ++ x ∷ []) i ≡ Some k) (sym f) (at_last nets x i (sym is ∙ e))
    | no not ↦ first_at nets x i y (are.stands y i (sym (set_other numbers x (Some n) y not) ∙ g))
  ];
  has = λ y i g. elim (at_first nets x i y g) [
    | inl l ↦
        let old = are.has y i l in
        let not : y ≡ x → ⊥ = λ f. none-some i (same_Some None (Some i) (sym h ∙ sym (ap (λ (k : ℕ). slice_get numbers k) f) ∙ old)) in
        set_other numbers x (Some n) y not ∙ old
    | inr r ↦
        let same : n ≡ i = e ∙ sym r.0 in
        subst (λ (k : ℕ). slice_get (slice_set numbers x (Some n)) k ≡ Some (Some i)) r.1
        (set_here numbers x (Some n) (slice_get_within numbers x None h) ∙ ap (λ (k : ℕ). Some (Some k)) same)
  ];
}

once : (nets : List ℕ) → ((i j x : ℕ) → slice_get nets i ≡ Some x → slice_get nets j ≡ Some x → i ≡ j) → AreApart nets
once [] same = tt
once (x ∷ nets) same = (
  (λ h. let r = position nets x h in let e = same 0 (suc r.0) x refl r.1 in absurd (omega (arith, e))),
  once nets (λ i j y h g. let e = same (suc i) (suc j) y h g in omega (arith, e)),
)

pub numbers_apart : (numbers : List (Option ℕ)) (nets : List ℕ) → AreNumbers numbers nets → AreApart nets
numbers_apart numbers nets are = once nets (λ i j x h g. same_Some i j (same_Some (Some i) (Some j) (sym (are.has x i h) ∙ are.has x j g)))

-- a numbered net keeps its number
pub kept : (nets : List ℕ) (x i y : ℕ) → slice_get nets i ≡ Some y → slice_get (with_net nets x) i ≡ Some y
kept nets x i y h = elim (cases_Bool (has_net nets x)) [
  | inl e ↦ subst (λ (b : Bool). slice_get (if b then nets else nets ++ x ∷ []) i ≡ Some y) (sym e) h
  | inr e ↦ subst (λ (b : Bool). slice_get (if b then nets else nets ++ x ∷ []) i ≡ Some y) (sym e) (first_at nets x i y h)
]

pub kept_in : (nets new : List ℕ) (x i y : ℕ) → new ≡ with_net nets x → slice_get nets i ≡ Some y → slice_get new i ≡ Some y
kept_in nets new x i y is h = subst (λ (l : List ℕ). slice_get l i ≡ Some y) (sym is) (kept nets x i y h)
