-- The entries of the two transistors are right.
use Rattle.std.proofs.Common.{◌≡◌, ◌⊎◌, inl, inr, ℕ, zero, suc, ◌<◌, [], ◌∷◌, Some, None, refl, sym, subst, arith}
use Rattle.std.proofs.lemmas.Option.{same_Some}
use Rattle.geo_base.specs.declared.shapes.Square.{Square}
use Rattle.flat_layout.specs.Gates.{Rule, geometry, InGate, IsListedGate, IsSettled, IsGateBelow, IsTerminalNode, TwoGroups}
use Rattle.flat_layout.specs.GateTables.{AreGates, GateEntry, GateRow, IsGateEntry, IsGateRow, counted_device}
use Rattle.flat_layout.specs.Layout.{IsReached}
use Rattle.flat_layout.specs.Nets.{Own, Child, Global, NetHolds}
use Rattle.flat_layout.specs.Regions.{Node, At, Ground}
use Rattle.law_samples.proofs.layout.Columns.{only_at, reached_two}
use Rattle.law_samples.proofs.layout.Gated.{child_gate_of, across_gate_of, child_only, across_only, gates_parted}
use Rattle.law_samples.proofs.layout.Lone.{InG, InS, geo, gate_self, group_self, gate_at, left_at, right_at, edge_to, form, first, least}
use Rattle.law_samples.proofs.layout.Right.{none_some}
use Rattle.law_samples.proofs.layout.Sides as sides
use Rattle.law_samples.proofs.layout.Wires.{net_has}
use Rattle.law_samples.specs.Transistors.{at, gate_design, gate_wiring, gate_tables, rule, gate_rules, gate_on, entry, child_gate, across_gate, gates_of}
use Rattle.plain_netlist.specs.Lists.{IsListed}
use Rattle.plain_netlist.specs.Devices.{Terminal, First, Second, Other, IsAt}

abbrev N : ℕ → ℕ → Node → Type 0
N = NetHolds gate_design gate_tables

nodes_of : (cell m source gate drain bulk : ℕ) → InG cell (gate_at m) → N cell source (At 0 (left_at m)) → N cell gate (At 1 (gate_at m)) → N cell drain (At 0 (right_at m)) → N cell bulk (Ground 0)
    → (t : Terminal) (x : ℕ) → IsAt t (counted_device rule (gate_on source gate drain bulk)) x
    → (n : Node) × IsTerminalNode gate_design gate_wiring rule cell (gate_at m) (TwoGroups (edge_to m (left_at m)) (edge_to m (right_at m))) t n × N cell x n
nodes_of cell m source gate drain bulk is s g d b First x (other, (e, f)) = (At 0 (left_at m), (left_at m, group_self cell (gate_at m) (left_at m), refl), subst (λ (y : ℕ). N cell y (At 0 (left_at m))) (sym e) s)
nodes_of cell m source gate drain bulk is s g d b Second x (other, (e, f)) = (At 0 (right_at m), (right_at m, group_self cell (gate_at m) (right_at m), refl), subst (λ (y : ℕ). N cell y (At 0 (right_at m))) (sym f) d)
nodes_of cell m source gate drain bulk is s g d b (Other zero) x e = (At 1 (gate_at m), (gate_at m, gate_self cell (gate_at m) (gate_at m) is refl, refl), subst (λ (y : ℕ). N cell y (At 1 (gate_at m))) (same_Some gate x e) g)
nodes_of cell m source gate drain bulk is s g d b (Other (suc zero)) x e = (Ground 0, inl (0, refl, refl), subst (λ (y : ℕ). N cell y (Ground 0)) (same_Some bulk x e) b)
nodes_of cell m source gate drain bulk is s g d b (Other (suc (suc j))) x e = none_some x e

row_right : (cell m source gate drain bulk : ℕ) → InG cell (gate_at m) → InS cell (left_at m) → InS cell (right_at m)
    → N cell source (At 0 (left_at m)) → N cell gate (At 1 (gate_at m)) → N cell drain (At 0 (right_at m)) → N cell bulk (Ground 0)
    → IsGateRow gate_design gate_wiring gate_tables rule cell (gate_at m) (gate_on source gate drain bulk)
row_right cell m source gate drain bulk is left right s g d b = record {
  sides = TwoGroups (edge_to m (left_at m)) (edge_to m (right_at m));
  good = form cell m is left right;
  first = first cell m is left right;
  kind = refl;
  formed = record { ends = refl; others = refl; sizes = refl };
  nets = nodes_of cell m source gate drain bulk is s g d b;
}

child_row : IsGateRow gate_design gate_wiring gate_tables rule 0 (at 1) child_gate
child_row =
    row_right 0 0 0 2 1 3 sides.child_gate sides.child_left sides.child_right (net_has 0 0 0 (Own 0 0) (Some 0) (record { listed = refl; numbered = refl }) refl) (net_has 0 2 2 (Own 1 0) (Some 1) (record { listed = refl; numbered = refl }) refl) (net_has 0 1 1 (Own 0 1) (Some 2) (record { listed = refl; numbered = refl }) refl) (net_has 0 3 3 (Global 0) None (record { listed = refl; numbered = refl }) refl)

across_row : IsGateRow gate_design gate_wiring gate_tables rule 1 (at 1) across_gate
across_row =
    row_right 1 0 0 1 3 5 sides.across_gate sides.across_left sides.across_right (net_has 1 0 0 (Own 0 0) (Some 0) (record { listed = refl; numbered = refl }) refl) (net_has 1 1 1 (Own 1 0) (Some 1) (record { listed = refl; numbered = refl }) refl) (net_has 1 3 3 (Child 0 1) (Some 2) (record { listed = refl; numbered = refl }) refl) (net_has 1 5 6 (Global 0) None (record { listed = refl; numbered = refl }) refl)

-- one gate, and one entry
entries_at : (cell : ℕ) (row : GateRow) → cell < 2 → InG cell (at 1) → InS cell (at 0) → InS cell (at 2) → IsListedGate gate_design geo cell (at 1) → IsGateRow gate_design gate_wiring gate_tables rule cell (at 1) row
    → ((q : Square) → IsListedGate gate_design geo cell q → q ≡ at 1) → AreGates gate_design gate_wiring gate_tables gate_rules cell (entry row ∷ [])
entries_at cell row lt is left right gate right_row only = record {
  each = each;
  found = λ r u s rule_is h.
      let u_is = only_at rule u r rule_is in
      let h_rule : IsListedGate gate_design geo cell s = subst (λ (k : Rule). IsListedGate gate_design (geometry gate_wiring k) cell s) u_is.1 h in
      (entry row, inl refl, sym u_is.0, subst (λ (k : Rule). InGate gate_design (geometry gate_wiring k) cell s (at 1)) (sym u_is.1) (gate_self cell s (at 1) h_rule.settled.is (only s h_rule)));
  rising = ((λ y n. absurd n), tt);
  parted = λ r u s rule_is h.
      let u_is : u ≡ rule = (only_at rule u r rule_is).1 in
      subst (λ (k : Rule). IsListedGate gate_design (geometry gate_wiring k) cell s ⊎ IsGateBelow gate_design (geometry gate_wiring k) cell s) (sym u_is)
      (gates_parted cell s lt (subst (λ (k : Rule). IsSettled gate_design (geometry gate_wiring k) cell s) u_is h));
}
  where
    this : IsGateEntry gate_design gate_wiring gate_tables gate_rules cell (entry row)
    this = record { rule = rule; is = refl; gate = gate; least = least cell 0 is left right; verdict = right_row }

    each : (x : GateEntry) → IsListed x (entry row ∷ []) → IsGateEntry gate_design gate_wiring gate_tables gate_rules cell x
    each x (inl e) = subst (IsGateEntry gate_design gate_wiring gate_tables gate_rules cell) (sym e) this
    each x (inr n) = absurd n

gates_at : (cell : ℕ) → cell < 2 → AreGates gate_design gate_wiring gate_tables gate_rules cell (gates_of cell)
gates_at zero lt = entries_at 0 child_gate lt sides.child_gate sides.child_left sides.child_right child_gate_of child_row child_only
gates_at (suc zero) lt = entries_at 1 across_gate lt sides.across_gate sides.across_left sides.across_right across_gate_of across_row across_only
gates_at (suc (suc n)) lt = absurd (omega arith)

pub gates : (cell : ℕ) → IsReached gate_design cell → AreGates gate_design gate_wiring gate_tables gate_rules cell (gates_of cell)
gates cell reached = gates_at cell (reached_two cell reached)
