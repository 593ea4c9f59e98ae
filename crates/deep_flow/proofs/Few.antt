-- The first n of a list: none is a certain cell; none has many nets.
use Rattle.std.proofs.Common.{◌≡◌, ◌<◌, ◌≤◌, ◌^◌, ◌+◌, ◌⊎◌, inl, inr, ℕ, zero, suc, List, Some, length, slice_get, arith, subst, sym, ◌∙◌}
use Rattle.std.proofs.lemmas.Option.{slice_get_within}
use Rattle.deep_tables.specs.declared.circuits.CellCircuit.{CellCircuit}
use Rattle.plain_netlist.proofs.Members.{position}
use Rattle.plain_netlist.specs.Lists.{IsListed}

abbrev pub FewTo : List CellCircuit → ℕ → Type 0
FewTo values n = (k : ℕ) (v : CellCircuit) → k < n → slice_get values k ≡ Some v → length v.drawn.items < 2 ^ 32

abbrev pub NoneTo : List ℕ → ℕ → ℕ → Type 0
NoneTo cells cell n = (j : ℕ) → j < n → slice_get cells j ≡ Some cell → ⊥

pub not_listed : (cells : List ℕ) (cell n : ℕ) → length cells ≤ n → NoneTo cells cell n → IsListed cell cells → ⊥
not_listed cells cell n long none is =
    let p = position cells cell is in
    none p.0 (let lt = slice_get_within cells p.0 cell p.1 in omega (arith, lt, long)) p.1

before_or_last : (k n : ℕ) → k < n + 1 → (k < n) ⊎ (k ≡ n)
before_or_last k zero lt = inr (omega (arith, lt))
before_or_last zero (suc n) lt = inl (omega arith)
before_or_last (suc k) (suc n) lt = elim (before_or_last k n (omega (arith, lt))) [
  | inl less ↦ inl (omega (arith, less))
  | inr e ↦ inr (omega (arith, e))
]

pub few_more : (values : List CellCircuit) (n : ℕ) (here : CellCircuit) → slice_get values n ≡ Some here → length here.drawn.items < 2 ^ 32 → FewTo values n → FewTo values (n + 1)
few_more values n here at few h k v lt is = elim (before_or_last k n lt) [
  | inl less ↦ h k v less is
  | inr last ↦
      let there : slice_get values n ≡ Some v = subst (λ i. slice_get values i ≡ Some v) last is in
      let same : here ≡ v = (let e : Some here ≡ Some v = sym at ∙ there in cc) in
      subst (λ (w : CellCircuit). length w.drawn.items < 2 ^ 32) same few
]
