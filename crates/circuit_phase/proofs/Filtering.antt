-- The cells with circuits among those of an order.
use Rattle.std.proofs.Common.{◌≡◌, ◌⊎◌, ◌↔◌, inl, inr, ℕ, ◌==◌, Bool, true, false, List, [], ◌∷◌, take, get_or, length, refl, sym, ◌∙◌, ap, subst}
use Rattle.std.specs.List.{filter}
use Rattle.std.proofs.Math.Seq.{take-length}
use Rattle.std.proofs.lemmas.Bool.{eq-eqb, eqb-true, or_cases, or_left, or_right, false≢true}
use Rattle.flat_layout.specs.Circuits.{AreCircuitCells, HasCircuit}
use Rattle.flat_layout.specs.GateTables.{GateEntry}
use Rattle.flat_layout.specs.Layout.{Design, IsReached}
use Rattle.flat_layout.specs.Order.{IsCellBefore, IsOrder}
use Rattle.plain_netlist.specs.Lists.{AreRising, IsListed}
use Rattle.circuit_phase.specs.Gated.{IsGated, is_circuit_cell}

abbrev keep : (b : Bool) (x : ℕ) (l : List ℕ) → List ℕ
keep true x l = x ∷ l
keep false x l = l

split_off : (t : ℕ → Bool) (x : ℕ) (l : List ℕ) → filter t (x ∷ l) ≡ keep (t x) x (filter t l)
split_off t x l = at (t x) refl
  where
    at : (b : Bool) → t x ≡ b → filter t (x ∷ l) ≡ keep b x (filter t l)
    at true e = rw e refl
    at false e = rw e refl

in_kept : (b : Bool) (c x : ℕ) (l : List ℕ) → IsListed c (keep b x l) → ((b ≡ true) × (c ≡ x)) ⊎ IsListed c l
in_kept true c x l (inl e) = inl (refl, e)
in_kept true c x l (inr h) = inr h
in_kept false c x l h = inr h

kept_in : (b : Bool) (c x : ℕ) (l : List ℕ) → ((b ≡ true) × (c ≡ x)) ⊎ IsListed c l → IsListed c (keep b x l)
kept_in true c x l (inl e) = inl e.1
kept_in true c x l (inr h) = inr h
kept_in false c x l (inl e) = absurd (false≢true e.0)
kept_in false c x l (inr h) = h

in_filter : (t : ℕ → Bool) (l : List ℕ) (c : ℕ) → IsListed c (filter t l) → IsListed c l × (t c ≡ true)
in_filter t [] c h = absurd h
in_filter t (x ∷ l) c h = elim (in_kept (t x) c x (filter t l) (subst (λ (k : List ℕ). IsListed c k) (split_off t x l) h)) [
  | inl e ↦ (inl e.1, ap t e.1 ∙ e.0)
  | inr g ↦ let r = in_filter t l c g in (inr r.0, r.1)
]

filter_in : (t : ℕ → Bool) (l : List ℕ) (c : ℕ) → IsListed c l → t c ≡ true → IsListed c (filter t l)
filter_in t [] c h e = absurd h
filter_in t (x ∷ l) c (inl h) e = subst (λ (k : List ℕ). IsListed c k) (sym (split_off t x l)) (kept_in (t x) c x (filter t l) (inl (ap t (sym h) ∙ e, h)))
filter_in t (x ∷ l) c (inr h) e = subst (λ (k : List ℕ). IsListed c k) (sym (split_off t x l)) (kept_in (t x) c x (filter t l) (inr (filter_in t l c h e)))

rising_kept : (R : ℕ → ℕ → Type 0) (b : Bool) (x : ℕ) (l : List ℕ) → ((y : ℕ) → IsListed y l → R x y) → AreRising R l → AreRising R (keep b x l)
rising_kept R true x l h g = (h, g)
rising_kept R false x l h g = g

rising_filter : (R : ℕ → ℕ → Type 0) (t : ℕ → Bool) (l : List ℕ) → AreRising R l → AreRising R (filter t l)
rising_filter R t [] h = tt
rising_filter R t (x ∷ l) h = subst (λ (k : List ℕ). AreRising R k) (sym (split_off t x l)) (rising_kept R (t x) x (filter t l) (λ y k. h.0 y (in_filter t l y k).0) (rising_filter R t l h.1))

pub all_listed : (d : Design) (of : ℕ → List GateEntry) (marks : List Bool) (order : List ℕ) (n : ℕ) (cells : List ℕ) → n ≡ length order → ((cell : ℕ) → IsReached d cell → (get_or marks cell false ≡ true) ↔ IsGated d of cell)
    → cells ≡ filter (is_circuit_cell d.top marks) (take n order) → (level : ℕ → ℕ) → IsOrder d level order → AreCircuitCells d level of cells
all_listed d of marks order n cells e marked h level is =
    let t = is_circuit_cell d.top marks in
    let all : cells ≡ filter t order = h ∙ ap (λ (k : ℕ). filter t (take k order)) e ∙ ap (filter t) (take-length order) in
    subst (λ (l : List ℕ). AreCircuitCells d level of l) (sym all) (record {
      each = λ cell. (
        (λ g.
            let f = in_filter t order cell g in
            let reached = ((is.each cell).0 f.0).0 in
            let has : HasCircuit d of cell = elim (or_cases (cell == d.top) (get_or marks cell false) f.1) [
              | inl a ↦ inl (eqb-true cell d.top a)
              | inr a ↦ inr ((marked cell reached).0 a)
            ] in
            (reached, has)),
        (λ g. filter_in t order cell ((is.each cell).1 (g.0, tt)) (chosen cell g.0 g.1)),
      );
      rising = rising_filter (IsCellBefore level) t order is.rising;
    })
  where
    chosen : (cell : ℕ) → IsReached d cell → HasCircuit d of cell → is_circuit_cell d.top marks cell ≡ true
    chosen cell reached (inl a) = or_left (cell == d.top) (get_or marks cell false) (eq-eqb cell d.top a)
    chosen cell reached (inr a) = or_right (cell == d.top) (get_or marks cell false) ((marked cell reached).1 a)
