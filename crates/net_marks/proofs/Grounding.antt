-- A terminal stands on a net of its cell.
use Rattle.std.proofs.Common.{◌≡◌, inl, inr, ℕ, zero, suc, List, [], ◌∷◌, Some, slice_get, refl, ap, subst}
use Rattle.std.proofs.lemmas.Option.{same_Some}
use Rattle.flat_layout.specs.GateTables.{Bad, GateEntry, GateRow, Good, GoodGate, IsGateRow, IsVerdict, Verdict, counted_device, good_gates, with_good}
use Rattle.plain_netlist.proofs.Rows.{terminal_at}
use Rattle.plain_netlist.specs.Lists.{IsListed}
use Rattle.net_marks.specs.Laws.{TerminalLaw}

pub record IsGoodEntry (l : List GateEntry) (row : GateRow) : Type 0 where
  pub entry : GateEntry
  pub listed : IsListed entry l
  pub good : entry.verdict ≡ Good row

in_rest : (e : GateEntry) (l : List GateEntry) (row : GateRow) → IsGoodEntry l row → IsGoodEntry (e ∷ l) row
in_rest e l row h = record { entry = h.entry; listed = inr h.listed; good = h.good }

one_entry : (e : GateEntry) (v : Verdict) (l : List GateEntry) → e.verdict ≡ v → ((i : ℕ) (gate : GoodGate) → slice_get (good_gates l) i ≡ Some gate → IsGoodEntry l gate.row)
    → (i : ℕ) (gate : GoodGate) → slice_get (with_good e.at v (good_gates l)) i ≡ Some gate → IsGoodEntry (e ∷ l) gate.row
one_entry e (Bad cause) l is rest i gate h = in_rest e l gate.row (rest i gate h)
one_entry e (Good row) l is rest zero gate h = record {
  entry = e;
  listed = inl refl;
  good = subst (λ (r : GateRow). e.verdict ≡ Good r) (ap (λ (g : GoodGate). g.row) (same_Some (record { at = e.at; row = row }) gate h)) is;
}
one_entry e (Good row) l is rest (suc i) gate h = in_rest e l gate.row (rest i gate h)

good_entry : (l : List GateEntry) (i : ℕ) (gate : GoodGate) → slice_get (good_gates l) i ≡ Some gate → IsGoodEntry l gate.row
good_entry [] i gate h = let z : ⊥ = cc in absurd z
good_entry (e ∷ l) i gate h = one_entry e e.verdict l refl (good_entry l) i gate h

pub terminals : TerminalLaw
terminals d w t rules gates cell x nets are (i, gate, h, on) =
    let g = good_entry (gates cell) i gate h in
    let entry = are.each g.entry g.listed in
    let row : IsGateRow d w t entry.rule cell g.entry.at.square gate.row = subst (λ (v : Verdict). IsVerdict d w t entry.rule cell g.entry.at.square v) g.good entry.verdict in
    let at = terminal_at (counted_device entry.rule gate.row) x on in
    let held = (row.nets at.0 x at.1).2 in
    nets.below held.index x held.is_of.numbered
