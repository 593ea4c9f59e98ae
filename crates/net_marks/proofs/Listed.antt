-- Nets with a terminal of a good gate, by test and by list.
use Rattle.std.proofs.Common.{◌≡◌, inl, inr, ℕ, zero, suc, ◌==◌, ◌||◌, Bool, true, false, List, [], ◌∷◌, Some, slice_get, refl, sym, ap, subst}
use Rattle.std.proofs.lemmas.Bool.{eqb-true, or_cases, or_right, or_left, false≢true}
use Rattle.std.proofs.lemmas.Option.{same_Some}
use Rattle.flat_layout.specs.GateTables.{GateEntry, GateRow, GateSquare, GoodGate, Good, Bad, Verdict, gate_nets, good_gates, with_good}
use Rattle.flat_layout.specs.Pins.{HasGate}
use Rattle.net_model.proofs.FirstLemmas.{any_has}
use Rattle.plain_netlist.specs.Lists.{IsListed}
use Rattle.net_marks.specs.Marks.{has_terminal, is_terminal}
use Rattle.net_marks.proofs.Terminals.{passes}

abbrev HasIn : List GateEntry → ℕ → Type 0
HasIn l x = HasGate (λ c. l) 0 x

of_row : (x : ℕ) (r : GateRow) → is_terminal x (Good r) ≡ true → IsListed x (gate_nets r)
of_row x r h = let w = any_has (λ k. x == k) (gate_nets r) h in subst (λ n. IsListed n (gate_nets r)) (sym (eqb-true x w.0 w.2)) w.1

abbrev HasVia : List GoodGate → ℕ → Type 0
HasVia gates x = (i : ℕ) × (gate : GoodGate) × (slice_get gates i ≡ Some gate) × IsListed x (gate_nets gate.row)

one_gate : (x : ℕ) (at : GateSquare) (v : Verdict) (b : Bool) (gates : List GoodGate) → (b ≡ true → HasVia gates x) → (is_terminal x v || b) ≡ true → HasVia (with_good at v gates) x
one_gate x at (Bad cause) b gates rest h = rest h
one_gate x at (Good row) b gates rest h = elim (or_cases (is_terminal x (Good row)) b h) [
  | inl e ↦ (0, (record { at = at; row = row }), refl, of_row x row e)
  | inr e ↦ let r = rest e in (suc r.0, r.1, r.2, r.3)
]

pub gate_of : (x : ℕ) (l : List GateEntry) → has_terminal x l ≡ true → HasIn l x
gate_of x [] h = absurd (false≢true h)
gate_of x (e ∷ l) h = one_gate x e.at e.verdict (has_terminal x l) (good_gates l) (gate_of x l) h

gate_one : (x : ℕ) (at : GateSquare) (v : Verdict) (b : Bool) (gates : List GoodGate) → (HasVia gates x → b ≡ true) → HasVia (with_good at v gates) x → (is_terminal x v || b) ≡ true
gate_one x at (Bad cause) b gates rest h = rest h
gate_one x at (Good row) b gates rest (zero, gate, h, on) =
    let is : row ≡ gate.row = ap (λ (g : GoodGate). g.row) (same_Some (record { at = at; row = row }) gate h) in
    or_left (is_terminal x (Good row)) b (passes (gate_nets row) x (subst (λ r. IsListed x (gate_nets r)) (sym is) on))
gate_one x at (Good row) b gates rest (suc i, gate, h, on) = or_right (is_terminal x (Good row)) b (rest (i, gate, h, on))

pub of_gate : (x : ℕ) (l : List GateEntry) → HasIn l x → has_terminal x l ≡ true
of_gate x [] (i, gate, h, on) = let z : ⊥ = cc in absurd z
of_gate x (e ∷ l) h = gate_one x e.at e.verdict (has_terminal x l) (good_gates l) (of_gate x l) h
