-- A list that is another in another order, by index.
use Rattle.std.proofs.Common.{◌≡◌, ◌≢◌, ◌<◌, ◌==◌, ℕ, Bool, cond, List, length, get_or, refl, sym, subst, ◌∙◌, ap, arith}
use Rattle.std.proofs.lemmas.Bool.{ne_eqb, eq-eqb}
use Rattle.std.specs.List.{swap}
use Rattle.std.specs.List.Sorted.{IsPermutation}
use Rattle.std.proofs.Math.Decide.{ℕ_discrete}
use Rattle.std.proofs.lemmas.List.Edits.{swapped_from_swap, length-swap}
use Rattle.std.proofs.lemmas.List.Sorted.{IsPermutation-keeps}

-- element i of the one is element `from i` of the other
pub record IsReordered {X : Type 0} (xs ys : List X) (d : X) : Type 0 where
  pub from : ℕ → ℕ
  pub back : ℕ → ℕ
  pub long : length ys ≡ length xs
  pub from_below : (i : ℕ) → i < length xs → from i < length xs
  pub back_below : (i : ℕ) → i < length xs → back i < length xs
  pub one : (i : ℕ) → i < length xs → back (from i) ≡ i
  pub onto : (i : ℕ) → i < length xs → from (back i) ≡ i
  pub is : (i : ℕ) → i < length xs → get_or ys i d ≡ get_or xs (from i) d

abbrev at : ℕ → ℕ → ℕ → ℕ
at a b i = cond (i == a) b (cond (i == b) a i)

at_first : (a b i : ℕ) → i ≡ a → at a b i ≡ b
at_first a b i e = ap (λ (t : Bool). cond {A = ℕ} t b (cond (i == b) a i)) (eq-eqb i a e)

at_second : (a b i : ℕ) → i ≢ a → i ≡ b → at a b i ≡ a
at_second a b i not e = ap (λ (t : Bool). cond {A = ℕ} t b (cond (i == b) a i)) (ne_eqb i a not) ∙ ap (λ (t : Bool). cond {A = ℕ} t a i) (eq-eqb i b e)

at_other : (a b i : ℕ) → i ≢ a → i ≢ b → at a b i ≡ i
at_other a b i na nb = ap (λ (t : Bool). cond {A = ℕ} t b (cond (i == b) a i)) (ne_eqb i a na) ∙ ap (λ (t : Bool). cond {A = ℕ} t a i) (ne_eqb i b nb)

at_back : (a b i : ℕ) → at a b (at a b i) ≡ i
at_back a b i = elim (ℕ_discrete i a) [
  | yes e ↦ elim (ℕ_discrete b a) [
    | yes same ↦ ap (at a b) (at_first a b i e) ∙ (at_first a b b same ∙ (same ∙ sym e))
    | no not ↦ ap (at a b) (at_first a b i e) ∙ (at_second a b b not refl ∙ sym e)
  ]
  | no not ↦ elim (ℕ_discrete i b) [
    | yes e ↦ ap (at a b) (at_second a b i not e) ∙ (at_first a b a refl ∙ sym e)
    | no far ↦ ap (at a b) (at_other a b i not far) ∙ at_other a b i not far
  ]
]

at_below : (a b i n : ℕ) → a < n → b < n → i < n → at a b i < n
at_below a b i n la lb li = elim (ℕ_discrete i a) [
  | yes e ↦ subst (λ (x : ℕ). x < n) (sym (at_first a b i e)) lb
  | no not ↦ elim (ℕ_discrete i b) [
    | yes e ↦ subst (λ (x : ℕ). x < n) (sym (at_second a b i not e)) la
    | no far ↦ subst (λ (x : ℕ). x < n) (sym (at_other a b i not far)) li
  ]
]

at_swap : {X : Type 0} (xs : List X) (a b i : ℕ) (d : X) → a < length xs → b < length xs → get_or (swap xs a b) i d ≡ get_or xs (at a b i) d
at_swap xs a b i d la lb =
    let s = swapped_from_swap xs (swap xs a b) a b d la lb refl in
    elim (ℕ_discrete i a) [
      | yes e ↦ ap (λ (m : ℕ). get_or (swap xs a b) m d) e ∙ (s.0 ∙ ap (λ (m : ℕ). get_or xs m d) (sym (at_first a b i e)))
      | no not ↦ elim (ℕ_discrete i b) [
        | yes e ↦ ap (λ (m : ℕ). get_or (swap xs a b) m d) e ∙ (s.1 ∙ ap (λ (m : ℕ). get_or xs m d) (sym (at_second a b i not e)))
        | no far ↦ s.2 i not far ∙ ap (λ (m : ℕ). get_or xs m d) (sym (at_other a b i not far))
      ]
    ]

swapped : {X : Type 0} (xs : List X) (d : X) (l : List X) (a b : ℕ) → a < length l → b < length l → IsReordered xs l d → IsReordered xs (swap l a b) d
swapped xs d l a b la lb h =
    let long = h.long in
    record {
      from = λ i. h.from (at a b i);
      back = λ i. at a b (h.back i);
      long = length-swap l a b ∙ h.long;
      from_below = λ i k. h.from_below (at a b i) (at_below a b i (length xs) (omega arith) (omega arith) k);
      back_below = λ i k. at_below a b (h.back i) (length xs) (omega arith) (omega arith) (h.back_below i k);
      one = λ i k. ap (at a b) (h.one (at a b i) (at_below a b i (length xs) (omega arith) (omega arith) k)) ∙ at_back a b i;
      onto = λ i k. ap h.from (at_back a b (h.back i)) ∙ h.onto i k;
      is = λ i k. at_swap l a b i d la lb ∙ h.is (at a b i) (at_below a b i (length xs) (omega arith) (omega arith) k);
    }

pub reordered : {X : Type 0} (xs ys : List X) (d : X) → IsPermutation xs ys → IsReordered xs ys d
reordered xs ys d h = IsPermutation-keeps xs (λ l. IsReordered xs l d)
    (record { from = λ i. i; back = λ i. i; long = refl; from_below = λ i k. k; back_below = λ i k. k; one = λ i k. refl; onto = λ i k. refl; is = λ i k. refl })
    (λ l i j li lj p. swapped xs d l i j li lj p) ys h
