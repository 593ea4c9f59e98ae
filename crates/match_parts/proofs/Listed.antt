-- Marks of listed numbers.
use Rattle.std.proofs.Common.{◌≡◌, ◌⊎◌, inl, inr, ℕ, zero, suc, ◌+◌, ◌<◌, ◌≤◌, Bool, true, false, List, [], ◌∷◌, length, slice_index, get_or, take, refl, sym, subst, ◌∙◌, ap, arith, true≢false, length-set}
use Rattle.std.proofs.Math.Decide.{ℕ_discrete}
use Rattle.std.proofs.Math.ListN.{set}
use Rattle.std.proofs.lemmas.List.{get_or-set_same, get_or-set_other}
use Rattle.plain_netlist.specs.Lists.{IsListed}
use Rattle.match_parts.specs.Marks.{AreUnset, AreMarked, AreMarkedOf}

listed_now : (xs : List ℕ) (i j : ℕ) → IsListed j (take (suc i) xs) → IsListed j (take i xs) ⊎ (j ≡ slice_index xs i)
listed_now [] i j h = absurd h
listed_now (x ∷ xs) zero j (inl e) = inr e
listed_now (x ∷ xs) zero j (inr h) = absurd h
listed_now (x ∷ xs) (suc i) j (inl e) = inl (inl e)
listed_now (x ∷ xs) (suc i) j (inr h) = elim (listed_now xs i j h) [ inl a ↦ inl (inr a) | inr e ↦ inr e ]

listed_before : (xs : List ℕ) (i j : ℕ) → IsListed j (take i xs) → IsListed j (take (suc i) xs)
listed_before [] i j h = absurd (none i j h)
  where
    none : (i j : ℕ) → IsListed j (take {A = ℕ} i []) → ⊥
    none zero j h = h
    none (suc i) j h = h
listed_before (x ∷ xs) zero j h = absurd h
listed_before (x ∷ xs) (suc i) j (inl e) = inl e
listed_before (x ∷ xs) (suc i) j (inr h) = inr (listed_before xs i j h)

listed_here : (xs : List ℕ) (i : ℕ) → i < length xs → IsListed (slice_index xs i) (take (suc i) xs)
listed_here [] i l = absurd (omega arith)
listed_here (x ∷ xs) zero l = inl refl
listed_here (x ∷ xs) (suc i) l = inr (listed_here xs i (omega arith))

-- one number more, which has a mark
pub set_one : (numbers : List ℕ) (i : ℕ) (marks more : List Bool) → AreMarkedOf numbers i marks → i < length numbers → slice_index numbers i < length marks
    → more ≡ set marks (slice_index numbers i) true → AreMarkedOf numbers (i + 1) more
set_one numbers i marks more h l low e = record { marked = subst (λ (n : ℕ). AreMarked (take n numbers) more) (suc_is i) all }
  where
    suc_is : (i : ℕ) → suc i ≡ i + 1
    suc_is i = omega arith

    all : AreMarked (take (suc i) numbers) more
    all j m =
        let long : length more ≡ length marks = ap length e ∙ length-set marks (slice_index numbers i) true in
        elim (ℕ_discrete j (slice_index numbers i)) [
          | yes is ↦
              let now : get_or more j false ≡ true
              = ap (λ (ms : List Bool). get_or ms j false) e ∙ subst (λ (x : ℕ). get_or (set marks (slice_index numbers i) true) x false ≡ true) (sym is) (get_or-set_same marks (slice_index numbers i) true false low) in
              ((λ t. subst (λ (x : ℕ). IsListed x (take (suc i) numbers)) (sym is) (listed_here numbers i l)), (λ t. now))
          | no not ↦
              let now : get_or more j false ≡ get_or marks j false
              = ap (λ (ms : List Bool). get_or ms j false) e ∙ get_or-set_other marks (slice_index numbers i) j true false not in
              let before = h.marked j (omega arith) in (
                (λ t. listed_before numbers i j (before.0 (sym now ∙ t))),
                (λ t. now ∙ before.1 (elim (listed_now numbers i j t) [ inl a ↦ a | inr is ↦ absurd (not is) ])),
              )
        ]

-- one number more, which has none
pub set_none : (numbers : List ℕ) (i : ℕ) (marks more : List Bool) → AreMarkedOf numbers i marks → length marks ≤ slice_index numbers i
    → more ≡ marks → AreMarkedOf numbers (i + 1) more
set_none numbers i marks more h high e = record { marked = subst (λ (n : ℕ). AreMarked (take n numbers) more) (suc_is i) (subst (λ (ms : List Bool). AreMarked (take (suc i) numbers) ms) (sym e) all) }
  where
    suc_is : (i : ℕ) → suc i ≡ i + 1
    suc_is i = omega arith

    all : AreMarked (take (suc i) numbers) marks
    all j m =
        let before = h.marked j m in (
          (λ t. listed_before numbers i j (before.0 t)),
          (λ t. before.1 (elim (listed_now numbers i j t) [ inl a ↦ a | inr is ↦ absurd (omega arith) ])),
        )

-- no number yet
pub set_first : (numbers : List ℕ) (marks : List Bool) → AreUnset (length marks) marks → AreMarkedOf numbers 0 marks
set_first numbers marks h = record { marked = λ j m. ((λ t. absurd (true≢false (sym t ∙ h j m))), (λ t. absurd t)) }
