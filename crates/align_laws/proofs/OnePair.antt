-- There is one aligned pair: the pairs determine what is kept and its numbers, and these the circuits.
use Rattle.std.proofs.Common.{◌≡◌, inl, inr, ℕ, zero, suc, ◌<◌, true, List, slice_get, sym, ◌∙◌, ap, subst, arith}
use Rattle.base_laws.proofs.Items.{item_at}
use Rattle.base_laws.proofs.Tests.{same_truth}
use Rattle.std.proofs.lemmas.Option.{none-some, slice_get_within}
use Rattle.plain_netlist.specs.Netlist.{Circuit, Netlist, IsCircuit}
use Rattle.plain_netlist.proofs.Faults.{sides}
use Rattle.align_laws.specs.Cut.{Alignment, cut}
use Rattle.align_laws.specs.Aligned.{IsAligned, HasOnlyKept}
use Rattle.align_laws.specs.Partners.{OnePairLaw}
use Rattle.align_laws.proofs.OneAligned.{get_ext, one_aligned}
use Rattle.align_laws.proofs.Origins.{option_cases}

-- kept circuits in order have the same numbers in two alignments without gaps
module _ (g o p : Netlist) (v w : Alignment) (a : IsAligned g o v) (b : IsAligned g p w) (only : HasOnlyKept o v) (also : HasOnlyKept p w) (kept_same : (c : ℕ) → v.kept c ≡ w.kept c)
    (rises : (c d : ℕ) → c < d → v.kept c ≡ true → v.kept d ≡ true → v.number c < v.number d) (also_rises : (c d : ℕ) → c < d → w.kept c ≡ true → w.kept d ≡ true → w.number c < w.number d) where
  -- a smaller number is that of an earlier circuit
  earlier : (c n : ℕ) → w.kept c ≡ true → n < w.number c → (d : ℕ) × (d < c) × (w.kept d ≡ true) × (w.number d ≡ n)
  earlier c n kept low =
      let high = slice_get_within p.circuits (w.number c) _ (b.by.cut_down.there c kept) in
      let at = item_at p.circuits n (omega arith) in
      let f = also.from n at.0 at.1 in
      let before : f.0 < c = elim (sides f.0 c) [
        | inl less ↦ less
        | inr (inl same) ↦ absurd (let e = ap w.number same in let h = f.2 in omega arith)
        | inr (inr more) ↦ absurd (let r = also_rises c f.0 more kept f.1 in let h = f.2 in omega arith)
      ] in
      (f.0, before, f.1, f.2)

  no_less : (m c : ℕ) → c < m → ((d : ℕ) → d < c → v.kept d ≡ true → v.number d ≡ w.number d) → v.kept c ≡ true → v.number c < w.number c → ⊥
  no_less m c low known kept less =
      let e = earlier c (v.number c) (sym (kept_same c) ∙ kept) less in
      let kept_d = kept_same e.0 ∙ e.2 in
      let same = only.apart e.0 c kept_d kept (known e.0 e.1 kept_d ∙ e.3) in
      let before = e.1 in
      omega arith

module _ (g o p : Netlist) (v w : Alignment) (a : IsAligned g o v) (b : IsAligned g p w) (only : HasOnlyKept o v) (also : HasOnlyKept p w) (kept_same : (c : ℕ) → v.kept c ≡ w.kept c)
    (rises : (c d : ℕ) → c < d → v.kept c ≡ true → v.kept d ≡ true → v.number c < v.number d) (also_rises : (c d : ℕ) → c < d → w.kept c ≡ true → w.kept d ≡ true → w.number c < w.number d) where
  numbers : (m c : ℕ) → c < m → v.kept c ≡ true → v.number c ≡ w.number c
  numbers zero c low kept = absurd (omega arith)
  numbers (suc m) c low kept =
      let known : (d : ℕ) → d < c → v.kept d ≡ true → v.number d ≡ w.number d = λ d less k. numbers m d (omega arith) k in
      elim (sides (v.number c) (w.number c)) [
        | inl less ↦ absurd (no_less g o p v w a b only also kept_same rises also_rises (suc m) c low known kept less)
        | inr (inl same) ↦ same
        | inr (inr more) ↦ absurd (no_less g p o w v b a also only (λ d. sym (kept_same d)) also_rises rises (suc m) c low (λ d less k. sym (known d less (kept_same d ∙ k))) (sym (kept_same c) ∙ kept) more)
      ]

-- one netlist, where what is kept has the same numbers
module _ (g o p : Netlist) (v w : Alignment) (a : IsAligned g o v) (b : IsAligned g p w) (only : HasOnlyKept o v) (also : HasOnlyKept p w) (kept_same : (c : ℕ) → v.kept c ≡ w.kept c)
    (number_same : (c : ℕ) → v.kept c ≡ true → v.number c ≡ w.number c) where
  there : (k : ℕ) (x : Circuit) → IsCircuit o k x → IsCircuit p k x
  there k x is =
      let f = only.from k x is in
      let kept = sym (kept_same f.0) ∙ f.1 in
      let number : v.number f.0 ≡ k = f.2 in
      let y = b.by.cut_down.there f.0 kept in
      let here : IsCircuit p (v.number f.0) (cut b.by.flat w f.0) = subst (λ (n : ℕ). IsCircuit p n (cut b.by.flat w f.0)) (sym (number_same f.0 f.1)) y in
      let same : x ≡ cut b.by.flat w f.0 = one_aligned g o p v w a b kept_same number_same f.0 f.1 x _ (subst (λ (n : ℕ). IsCircuit o n x) (sym number) is) here in
      subst (λ (n : ℕ). IsCircuit p n x) number (subst (λ (z : Circuit). IsCircuit p (v.number f.0) z) (sym same) here)

one_netlist : (g o p : Netlist) (v w : Alignment) (a : IsAligned g o v) (b : IsAligned g p w) → HasOnlyKept o v → HasOnlyKept p w → ((c : ℕ) → v.kept c ≡ w.kept c) → ((c : ℕ) → v.kept c ≡ true → v.number c ≡ w.number c) → o ≡ p
one_netlist g o p v w a b only also kept_same number_same =
    ap (λ (cs : List Circuit). let n : Netlist = record { circuits = cs } in n) (get_ext o.circuits p.circuits (λ k. at k))
  where
    at : (k : ℕ) → slice_get o.circuits k ≡ slice_get p.circuits k
    at k = elim (option_cases (slice_get o.circuits k)) [
      | inr (x, is) ↦ is ∙ sym (there g o p v w a b only also kept_same number_same k x is)
      | inl none ↦ elim (option_cases (slice_get p.circuits k)) [
        | inl gone ↦ none ∙ sym gone
        | inr (y, is) ↦ absurd (none-some y (sym none ∙ there g p o w v b a also only (λ c. sym (kept_same c)) (λ c kept. sym (number_same c (kept_same c ∙ kept))) k y is))
      ]
    ]

pub one_pair : OnePairLaw
one_pair layout schematic top right_top same l r m s v w x y p q =
    let left_kept : (c : ℕ) → v.kept c ≡ x.kept c = λ c. same_truth (v.kept c) (x.kept c) (λ h. (q.pairs.left_kept c).1 ((p.pairs.left_kept c).0 h)) (λ h. (p.pairs.left_kept c).1 ((q.pairs.left_kept c).0 h)) in
    let right_kept : (c : ℕ) → w.kept c ≡ y.kept c = λ c. same_truth (w.kept c) (y.kept c) (λ h. (q.pairs.right_kept c).1 ((p.pairs.right_kept c).0 h)) (λ h. (p.pairs.right_kept c).1 ((q.pairs.right_kept c).0 h)) in
    let left_number : (c : ℕ) → v.kept c ≡ true → v.number c ≡ x.number c = λ c. numbers layout l m v x p.left_aligned q.left_aligned p.left_only q.left_only left_kept p.pairs.rising q.pairs.rising (suc c) c (omega arith) in
    let right_number : (c : ℕ) → w.kept c ≡ true → w.number c ≡ y.number c = λ c kept.
    let pair = (p.pairs.right_kept c).0 kept in
    sym (p.pairs.together pair.0 c pair.1) ∙ (left_number pair.0 ((p.pairs.left_kept pair.0).1 (c, pair.1)) ∙ q.pairs.together pair.0 c pair.1) in
    (one_netlist layout l m v x p.left_aligned q.left_aligned p.left_only q.left_only left_kept left_number, one_netlist schematic r s w y p.right_aligned q.right_aligned p.right_only q.right_only right_kept right_number)
