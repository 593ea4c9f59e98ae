-- The tables of pins and circuits of the small design are right.
use Rattle.std.proofs.Common.{◌≡◌, ◌⊎◌, ◌↔◌, inl, inr, ℕ, zero, suc, ◌<◌, true, false, List, [], ◌∷◌, Some, slice_get, refl, sym, ap, subst, arith}
use Rattle.std.proofs.lemmas.Option.{same_Some}
use Rattle.flat_laws.proofs.OneNet.{regions}
use Rattle.flat_layout.specs.Circuits.{AreCircuitCells, AreDrawn, HasCircuit, IsCircuitOf, IsDrawn, IsDrawnBelow, IsNetlistOf}
use Rattle.flat_layout.specs.Expanded.{AreTablesRight}
use Rattle.flat_layout.specs.GateTables.{AreGates, GateEntry}
use Rattle.flat_layout.specs.Layout.{Place, IsReached, Leads}
use Rattle.flat_layout.specs.Nets.{Own, NetHolds}
use Rattle.flat_layout.specs.Pins.{ArePins, HasGate, IsBase, IsMarked, IsMarkedNet, IsPinNet, IsTag, IsUsedAbove}
use Rattle.flat_layout.specs.Regions.{Node, At, Ground}
use Rattle.law_samples.proofs.layout.Listing.{each_at}
use Rattle.law_samples.proofs.layout.Right.{levels, none_some, one_place, right}
use Rattle.law_samples.specs.Sample.{place, parent, sample_design, sample_wiring, sample_tables, sample_level, pins_of, drawn_of, small_circuits, top_circuit, sample_netlist, sample_rules}
use Rattle.plain_netlist.specs.Netlist.{Circuit, IsCircuit}

abbrev no_gates : ℕ → List GateEntry
no_gates cell = []

top : IsReached sample_design 1
top = record { path = []; leads = refl }

child_pin : IsUsedAbove sample_design sample_tables no_gates pins_of 0 0
child_pin = record {
  parent = 1;
  number = 0;
  place = place;
  net = 0;
  reached = top;
  placed = (parent, refl, refl);
  here = refl;
  is_of = (1, record { listed = refl; numbered = refl });
  used = inl (Own 0 0, (λ e. let z : ⊥ = cc in z), (0, record { listed = refl; numbered = refl }));
}

no_mark : (cell x : ℕ) (n : Node) → IsReached sample_design cell → NetHolds sample_design sample_tables cell x n → IsMarked sample_design sample_wiring cell n → ⊥
no_mark cell x (At c q) reached h mark = mark.1.line
no_mark cell x (Ground g) reached h mark = let lt = (regions sample_design sample_wiring sample_tables sample_level right cell reached).sound x (Ground g) h in absurd (omega arith)

top_unused : (b : ℕ) → IsUsedAbove sample_design sample_tables no_gates pins_of 1 b → ⊥
top_unused b h =
    let one = one_place h.parent h.number h.place h.placed in
    let zero_is : h.place.cell ≡ 0 = ap (λ (x : Place). x.cell) one.2 in
    let e = h.here in
    absurd (omega arith)

pins : (cell b : ℕ) → IsReached sample_design cell → b < (sample_tables.nets cell).count → IsPinNet pins_of cell b ↔ (IsMarkedNet sample_design sample_wiring sample_tables cell b ⊎ IsUsedAbove sample_design sample_tables no_gates pins_of cell b)
pins zero b reached lt =
    let is : b ≡ 0 = omega arith in (
      (λ h. inr (subst (λ k. IsUsedAbove sample_design sample_tables no_gates pins_of 0 k) (sym is) child_pin)),
      (λ h. subst (λ k. slice_get (true ∷ []) k ≡ Some true) (sym is) refl),
    )
pins (suc zero) b reached lt =
    let is : b ≡ 0 = omega arith in (
      (λ h. let e : Some false ≡ Some true = subst (λ k. slice_get (false ∷ []) k ≡ Some true) is h in absurd (let z : ⊥ = cc in z)),
      (λ h. elim h [
        | inl m ↦ absurd (no_mark 1 b m.node reached m.holds m.marked)
        | inr u ↦ absurd (top_unused b u)
      ]),
    )
pins (suc (suc n)) b reached lt = absurd (omega arith)

-- no net has a name
no_tag : (cell x : ℕ) (s : List ℕ) → IsReached sample_design cell → IsTag sample_design sample_wiring sample_tables cell x s → ⊥
no_tag cell x s reached (At c q, holds, tag) = tag.1.line
no_tag cell x s reached (Ground g, holds, tag) = none_some s tag

nameless : (cell x : ℕ) → IsReached sample_design cell → IsBase sample_design sample_wiring sample_tables cell x []
nameless cell x reached = record { tags = []; each = λ s. ((λ n. absurd n), (λ h. absurd (no_tag cell x s reached h))); rising = tt; joined = refl }

leads_two : (from to : ℕ) (ks : List ℕ) → from < 2 → Leads sample_design from ks to → to < 2
leads_two from to [] lt h = omega arith
leads_two from to (k ∷ ks) lt (p, placed, rest) =
    let e : p.cell ≡ 0 = ap (λ (x : Place). x.cell) (one_place from k p placed).2 in
    leads_two p.cell to ks (omega arith) rest

reached_two : (cell : ℕ) → IsReached sample_design cell → cell < 2
reached_two cell h = leads_two 1 cell h.path (omega arith) h.leads

pinned : (cell : ℕ) → cell < 2 → IsReached sample_design cell → ArePins sample_design sample_wiring sample_tables no_gates pins_of cell (pins_of cell)
pinned zero lt reached = record { count = refl; each = λ b small. pins 0 b reached small; named = refl; names = each_at (IsBase sample_design sample_wiring sample_tables 0) ([] ∷ []) (nameless 0 0 reached, tt) }
pinned (suc zero) lt reached = record { count = refl; each = λ b small. pins 1 b reached small; named = refl; names = each_at (IsBase sample_design sample_wiring sample_tables 1) ([] ∷ []) (nameless 1 0 reached, tt) }
pinned (suc (suc n)) lt reached = absurd (omega arith)

undrawn : (cell x : ℕ) → IsDrawn drawn_of cell x → ⊥
undrawn zero zero h = let z : ⊥ = cc in z
undrawn zero (suc x) h = none_some true h
undrawn (suc zero) zero h = let z : ⊥ = cc in z
undrawn (suc zero) (suc x) h = none_some true h
undrawn (suc (suc n)) x h = none_some true h

drawn_at : (cell x : ℕ) → IsDrawn drawn_of cell x ↔ (HasGate no_gates cell x ⊎ IsDrawnBelow sample_design sample_tables pins_of drawn_of cell x)
drawn_at cell x = ((λ h. absurd (undrawn cell x h)), (λ h. elim h [ inl g ↦ none_some g.1 g.2 | inr b ↦ absurd (undrawn b.place.cell b.net b.is_drawn) ]))

drawn : (cell : ℕ) → cell < 2 → AreDrawn sample_design sample_tables no_gates pins_of drawn_of cell (drawn_of cell)
drawn zero lt = record { count = refl; each = λ x small. drawn_at 0 x }
drawn (suc zero) lt = record { count = refl; each = λ x small. drawn_at 1 x }
drawn (suc (suc n)) lt = absurd (omega arith)

cells : AreCircuitCells sample_design sample_level no_gates (1 ∷ [])
cells = record {
  each = λ cell. (
    (λ l. elim l [ inl e ↦ subst (λ k. IsReached sample_design k × HasCircuit sample_design no_gates k) (sym e) (top, inl refl) | inr n ↦ absurd n ]),
    (λ h. elim h.1 [ inl e ↦ inl e | inr (e, under, gate, n) ↦ absurd n ]),
  );
  rising = ((λ y n. absurd n), tt);
}

only_one : (n cell : ℕ) → slice_get (1 ∷ []) n ≡ Some cell → (n ≡ 0) × (1 ≡ cell)
only_one zero cell e = (refl, same_Some _ _ e)
only_one (suc n) cell e = none_some cell e

abbrev Right : ℕ → ℕ → Circuit → Type 0
Right n cell c = IsCircuitOf sample_design sample_tables no_gates pins_of drawn_of sample_rules 1000 (1 ∷ []) n cell (record { nets = []; calls = [] }) c

top_right : Right 0 1 top_circuit
top_right = record {
  has_name = refl;
  has_nets = record { apart = tt; each = λ x. ((λ n. absurd n), (λ h. absurd (undrawn 1 x h))); count = refl; named = λ a k x e. none_some x e };
  has_pins = record { count = refl; each = λ i x e. none_some x e };
  has_devices = record { count = refl; each = λ i gate row e. none_some gate e };
  has_calls = record {
    placements = λ k. (
      (λ n. absurd n),
      (λ (p, placed, l). elim l [
        | inl e ↦ (let f : p.cell ≡ 0 = ap (λ (x : Place). x.cell) (one_place 1 k p placed).2 in absurd (omega arith))
        | inr n ↦ absurd n
      ]),
    );
    rising = tt;
    count = refl;
    each = λ a k p row e. none_some k e;
  };
  normal = record { pins = λ i n e. none_some n e; numbered = refl };
}

circuit_at : (n cell : ℕ) (c : Circuit) → slice_get (1 ∷ []) n ≡ Some cell → IsCircuit sample_netlist n c → Right n cell c
circuit_at n cell c e is =
    let one = only_one n cell e in
    let f : top_circuit ≡ c = same_Some _ _ (subst (λ k. IsCircuit sample_netlist k c) one.0 is) in
    subst (λ k. Right k cell c) (sym one.0) (subst (λ k. Right 0 k c) one.1 (subst (Right 0 1) f top_right))

circuits : IsNetlistOf sample_design sample_tables no_gates pins_of drawn_of sample_rules 1000 (1 ∷ []) (λ cell. record { nets = []; calls = [] }) sample_netlist
circuits = record { count = refl; each = circuit_at }

gates : (cell : ℕ) → AreGates sample_design sample_wiring sample_tables sample_rules cell []
gates cell = record { each = λ x n. absurd n; found = λ r u s rule. none_some u rule; rising = tt; parted = λ r u s rule. none_some u rule }

pub all_right : AreTablesRight sample_design sample_wiring sample_tables small_circuits sample_netlist sample_rules 1000 sample_level
all_right = record {
  levels = levels;
  tables = right;
  gates = λ cell reached. gates cell;
  pins = λ cell reached. pinned cell (reached_two cell reached) reached;
  drawn = λ cell reached. drawn cell (reached_two cell reached);
  cells = cells;
  circuits = circuits;
}
