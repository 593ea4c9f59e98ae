-- The tables of pins, drawn nets and circuits of the design with transistors are right.
use Rattle.std.proofs.Common.{◌≡◌, ◌⊎◌, ◌↔◌, inl, inr, ℕ, zero, suc, ◌<◌, true, List, [], ◌∷◌, Some, None, slice_get, refl, sym, ◌∙◌, ap, subst, arith}
use Rattle.std.specs.Prelude.{decimal}
use Rattle.std.proofs.lemmas.Fmt.{decimal_digit}
use Rattle.std.proofs.lemmas.Option.{same_Some}
use Rattle.flat_layout.specs.Circuits.{AreCircuitCells, AreDrawn, HasCircuit, IsCallOf, IsCircuitOf, IsDeviceOfGate, IsDrawn, IsNetlistOf, drawn_names}
use Rattle.flat_layout.specs.GateTables.{device_by}
use Rattle.flat_layout.specs.Layout.{Place, Text, IsPlaced, IsReached}
use Rattle.flat_layout.specs.Nets.{Child, Global, NetHolds}
use Rattle.flat_layout.specs.Pins.{ArePins, IsBase, IsNetOf, IsTag}
use Rattle.flat_layout.specs.Regions.{At, Ground}
use Rattle.law_samples.proofs.layout.Columns.{only_at, one_place, placed_here, no_place, reached_two, top_reached}
use Rattle.law_samples.proofs.layout.Listing.{each_at}
use Rattle.law_samples.proofs.layout.Pinned.{IsMarkable, drain_holds, drain_on, drawn_from, drawn_gate, gate_drawn, global_net, good, not_true, only_text, pins, text_net}
use Rattle.law_samples.proofs.layout.Right.{none_some}
use Rattle.law_samples.proofs.layout.Wires.{net_at, net_has}
use Rattle.law_samples.specs.Sample.{sample_level}
use Rattle.law_samples.specs.Transistors.{at, drain_text, big_d, mirror_place, gate_design, gate_wiring, gate_tables, vss, gate_rules, rule, child_gate, across_gate, gate_on, gates_of, pins_of, drawn_of, parts_of, row_on, dollar, big_vss, child_circuit, parent_circuit, gate_netlist}
use Rattle.plain_netlist.specs.Lists.{AreApart, IsListed}
use Rattle.plain_netlist.proofs.Listing.{at_apart}
use Rattle.plain_netlist.specs.Devices.{IsRowOver}
use Rattle.plain_netlist.specs.Netlist.{CallRow, Circuit, IsCircuit}

-- tags are the global's name, and the parent's text
abbrev IsKnownTag : ℕ → ℕ → List ℕ → Type 0
IsKnownTag cell x s = ((x ≡ net_at cell None) × (s ≡ vss)) ⊎ ((cell ≡ 1) × (x ≡ 3) × (s ≡ drain_text.string))

tag_at : (cell x : ℕ) (s : List ℕ) → cell < 2 → IsTag gate_design gate_wiring gate_tables cell x s → IsKnownTag cell x s
tag_at cell x s lt (At c q, holds, (text, on, is)) =
    let r = text_net cell c x q text lt holds on in
    inr (r.0, r.1, sym is ∙ ap (λ (t : Text). t.string) (only_text cell text on.has).1)
tag_at cell x s lt (Ground g, holds, tag) = inl (global_net cell x g lt holds, (only_at vss s g tag).1)

no_tag : (cell x : ℕ) → cell < 2 → (IsMarkable cell x → ⊥) → IsBase gate_design gate_wiring gate_tables cell x []
no_tag cell x lt not = record { tags = []; each = λ s. ((λ n. absurd n), (λ h. absurd (elim (tag_at cell x s lt h) [ inl k ↦ not (inl k.0) | inr (one, three, is) ↦ not (inr (one, three)) ]))); rising = tt; joined = refl }

-- a net with one tag
one_tag : (cell x : ℕ) (tag : List ℕ) → IsTag gate_design gate_wiring gate_tables cell x tag → ((s : List ℕ) → IsTag gate_design gate_wiring gate_tables cell x s → s ≡ tag) → IsBase gate_design gate_wiring gate_tables cell x tag
one_tag cell x tag there only = record {
  tags = tag ∷ [];
  each = λ s. (
    (λ l. elim l [ inl e ↦ subst (IsTag gate_design gate_wiring gate_tables cell x) (sym e) there | inr n ↦ absurd n ]),
    (λ h. inl (only s h)),
  );
  rising = ((λ y n. absurd n), tt);
  joined = refl;
}

global_tag : (cell x : ℕ) → cell < 2 → (x ≡ 3 → cell ≡ 1 → ⊥) → NetHolds gate_design gate_tables cell x (Ground 0) → IsBase gate_design gate_wiring gate_tables cell x vss
global_tag cell x lt not holds = one_tag cell x vss (Ground 0, holds, refl) (λ s h. elim (tag_at cell x s lt h) [ inl k ↦ k.1 | inr (one, three, is) ↦ absurd (not three one) ])

text_tag : IsBase gate_design gate_wiring gate_tables 1 3 drain_text.string
text_tag = one_tag 1 3 drain_text.string (At 0 (at 2), drain_holds, (drain_text, drain_on, refl)) (λ s h. elim (tag_at 1 3 s (omega arith) h) [ inl k ↦ (let e = k.0 in absurd (omega arith)) | inr k ↦ k.2 ])

child_names : (b : ℕ) (base : List ℕ) → slice_get (pins_of 0).names b ≡ Some base → IsBase gate_design gate_wiring gate_tables 0 b base
child_names = each_at (IsBase gate_design gate_wiring gate_tables 0) (pins_of 0).names (
  no_tag 0 0 (omega arith) (λ m. elim m [ inl e ↦ absurd (omega arith) | inr (e, f) ↦ absurd (omega arith) ]),
  (
    no_tag 0 1 (omega arith) (λ m. elim m [ inl e ↦ absurd (omega arith) | inr (e, f) ↦ absurd (omega arith) ]),
    (
      no_tag 0 2 (omega arith) (λ m. elim m [ inl e ↦ absurd (omega arith) | inr (e, f) ↦ absurd (omega arith) ]),
      (global_tag 0 3 (omega arith) (λ e f. absurd (omega arith)) (net_has 0 3 3 (Global 0) None (record { listed = refl; numbered = refl }) refl), tt),
    ),
  ),
)

parent_names : (b : ℕ) (base : List ℕ) → slice_get (pins_of 1).names b ≡ Some base → IsBase gate_design gate_wiring gate_tables 1 b base
parent_names = each_at (IsBase gate_design gate_wiring gate_tables 1) (pins_of 1).names (
  no_tag 1 0 (omega arith) (λ m. elim m [ inl e ↦ absurd (omega arith) | inr (e, f) ↦ absurd (omega arith) ]),
  (
    no_tag 1 1 (omega arith) (λ m. elim m [ inl e ↦ absurd (omega arith) | inr (e, f) ↦ absurd (omega arith) ]),
    (
      no_tag 1 2 (omega arith) (λ m. elim m [ inl e ↦ absurd (omega arith) | inr (e, f) ↦ absurd (omega arith) ]),
      (
        text_tag,
        (
          no_tag 1 4 (omega arith) (λ m. elim m [ inl e ↦ absurd (omega arith) | inr (e, f) ↦ absurd (omega arith) ]),
          (global_tag 1 5 (omega arith) (λ e f. absurd (omega arith)) (net_has 1 5 6 (Global 0) None (record { listed = refl; numbered = refl }) refl), tt),
        ),
      ),
    ),
  ),
)

pinned_at : (cell : ℕ) → cell < 2 → ArePins gate_design gate_wiring gate_tables gates_of pins_of cell (pins_of cell)
pinned_at zero lt = record { count = refl; each = λ b small. pins 0 b small; named = refl; names = child_names }
pinned_at (suc zero) lt = record { count = refl; each = λ b small. pins 1 b small; named = refl; names = parent_names }
pinned_at (suc (suc n)) lt = absurd (omega arith)

pub pinned : (cell : ℕ) → IsReached gate_design cell → ArePins gate_design gate_wiring gate_tables gates_of pins_of cell (pins_of cell)
pinned cell reached = pinned_at cell (reached_two cell reached)

drawn_at : (cell : ℕ) → cell < 2 → AreDrawn gate_design gate_tables gates_of pins_of drawn_of cell (drawn_of cell)
drawn_at zero lt = record { count = refl; each = λ x small. ((λ h. inl (drawn_gate 0 x h)), (λ h. elim h [ inl g ↦ gate_drawn 0 x g | inr b ↦ drawn_from 0 x lt b ])) }
drawn_at (suc zero) lt = record { count = refl; each = λ x small. ((λ h. inl (drawn_gate 1 x h)), (λ h. elim h [ inl g ↦ gate_drawn 1 x g | inr b ↦ drawn_from 1 x lt b ])) }
drawn_at (suc (suc n)) lt = absurd (omega arith)

pub drawn : (cell : ℕ) → IsReached gate_design cell → AreDrawn gate_design gate_tables gates_of pins_of drawn_of cell (drawn_of cell)
drawn cell reached = drawn_at cell (reached_two cell reached)

-- both cells have a circuit
child_reached : IsReached gate_design 0
child_reached = record { path = 0 ∷ []; leads = (mirror_place, placed_here, refl) }

circuit_in : (cell : ℕ) → IsListed cell (0 ∷ (1 ∷ [])) → IsReached gate_design cell × HasCircuit gate_design gates_of cell
circuit_in cell (inl e) = subst (λ k. IsReached gate_design k × HasCircuit gate_design gates_of k) (sym e) (child_reached, inr (0, ([], refl), good child_gate, inl refl))
circuit_in cell (inr (inl e)) = subst (λ k. IsReached gate_design k × HasCircuit gate_design gates_of k) (sym e) (top_reached, inl refl)
circuit_in cell (inr (inr n)) = absurd n

in_circuit : (cell : ℕ) → cell < 2 → IsListed cell (0 ∷ (1 ∷ []))
in_circuit zero lt = inl refl
in_circuit (suc zero) lt = inr (inl refl)
in_circuit (suc (suc n)) lt = absurd (omega arith)

pub cells : AreCircuitCells gate_design sample_level gates_of (0 ∷ (1 ∷ []))
cells = record {
  each = λ cell. (circuit_in cell, λ h. in_circuit cell (reached_two cell h.0));
  rising = ((λ y l. elim l [ inl e ↦ subst (λ k. (0 < sample_level k) ⊎ ((0 ≡ sample_level k) × (0 < k))) (sym e) (inl (omega arith)) | inr n ↦ absurd n ]), ((λ y n. absurd n), tt));
}

-- the names of the drawn nets
abbrev four_names : List (List ℕ)
four_names = dollar 49 ∷ (dollar 50 ∷ (dollar 51 ∷ (big_vss ∷ [])))

abbrev parent_four : List (List ℕ)
parent_four = dollar 49 ∷ (dollar 50 ∷ (big_d ∷ (big_vss ∷ [])))

child_names_are : drawn_names (pins_of 0) (drawn_of 0) ≡ four_names
child_names_are = by_digits
  where
    by_digits : (36 ∷ decimal 1) ∷ ((36 ∷ decimal 2) ∷ ((36 ∷ decimal 3) ∷ (big_vss ∷ []))) ≡ four_names
    by_digits = ap (λ (t : List ℕ). (36 ∷ t) ∷ ((36 ∷ decimal 2) ∷ ((36 ∷ decimal 3) ∷ (big_vss ∷ [])))) (decimal_digit 1 (omega arith))
        ∙ ap (λ (t : List ℕ). dollar 49 ∷ ((36 ∷ t) ∷ ((36 ∷ decimal 3) ∷ (big_vss ∷ [])))) (decimal_digit 2 (omega arith))
        ∙ ap (λ (t : List ℕ). dollar 49 ∷ (dollar 50 ∷ ((36 ∷ t) ∷ (big_vss ∷ [])))) (decimal_digit 3 (omega arith))

parent_names_are : drawn_names (pins_of 1) (drawn_of 1) ≡ parent_four
parent_names_are = by_digits
  where
    by_digits : (36 ∷ decimal 1) ∷ ((36 ∷ decimal 2) ∷ (big_d ∷ (big_vss ∷ []))) ≡ parent_four
    by_digits = ap (λ (t : List ℕ). (36 ∷ t) ∷ ((36 ∷ decimal 2) ∷ (big_d ∷ (big_vss ∷ [])))) (decimal_digit 1 (omega arith))
        ∙ ap (λ (t : List ℕ). dollar 49 ∷ ((36 ∷ t) ∷ (big_d ∷ (big_vss ∷ [])))) (decimal_digit 2 (omega arith))

-- where the nets of a circuit stand in it
abbrev child_spot : ℕ → ℕ
child_spot zero = 3
child_spot (suc zero) = 0
child_spot (suc (suc zero)) = 2
child_spot (suc (suc (suc x))) = 1

abbrev parent_spot : ℕ → ℕ
parent_spot zero = 3
parent_spot (suc zero) = 2
parent_spot (suc (suc zero)) = 1
parent_spot (suc (suc (suc zero))) = 0
parent_spot (suc (suc (suc (suc x)))) = 1

-- and among the drawn nets
abbrev parent_order : ℕ → ℕ
parent_order zero = 0
parent_order (suc zero) = 1
parent_order (suc (suc zero)) = 2
parent_order (suc (suc (suc zero))) = 2
parent_order (suc (suc (suc (suc x)))) = 3

abbrev child_nets : List ℕ
child_nets = 1 ∷ (3 ∷ (2 ∷ (0 ∷ [])))

abbrev parent_nets : List ℕ
parent_nets = 3 ∷ (5 ∷ (1 ∷ (0 ∷ [])))

child_apart : AreApart child_nets
child_apart = at_apart child_nets (λ i j a e f. spot i a e ∙ sym (spot j a f))
  where
    spot : (i a : ℕ) → slice_get child_nets i ≡ Some a → i ≡ child_spot a
    spot = each_at (λ i a. i ≡ child_spot a) child_nets (refl, (refl, (refl, (refl, tt))))

parent_apart : AreApart parent_nets
parent_apart = at_apart parent_nets (λ i j a e f. spot i a e ∙ sym (spot j a f))
  where
    spot : (i a : ℕ) → slice_get parent_nets i ≡ Some a → i ≡ parent_spot a
    spot = each_at (λ i a. i ≡ parent_spot a) parent_nets (refl, (refl, (refl, (refl, tt))))

child_drawn : (x : ℕ) → IsListed x child_nets ↔ IsDrawn drawn_of 0 x
child_drawn x = (of_list, of_drawn x)
  where
    of_list : IsListed x child_nets → IsDrawn drawn_of 0 x
    of_list (inl e) = subst (IsDrawn drawn_of 0) (sym e) refl
    of_list (inr (inl e)) = subst (IsDrawn drawn_of 0) (sym e) refl
    of_list (inr (inr (inl e))) = subst (IsDrawn drawn_of 0) (sym e) refl
    of_list (inr (inr (inr (inl e)))) = subst (IsDrawn drawn_of 0) (sym e) refl
    of_list (inr (inr (inr (inr n)))) = absurd n

    of_drawn : (y : ℕ) → IsDrawn drawn_of 0 y → IsListed y child_nets
    of_drawn zero h = inr (inr (inr (inl refl)))
    of_drawn (suc zero) h = inl refl
    of_drawn (suc (suc zero)) h = inr (inr (inl refl))
    of_drawn (suc (suc (suc zero))) h = inr (inl refl)
    of_drawn (suc (suc (suc (suc y)))) h = none_some true h

parent_drawn : (x : ℕ) → IsListed x parent_nets ↔ IsDrawn drawn_of 1 x
parent_drawn x = (of_list, of_drawn x)
  where
    of_list : IsListed x parent_nets → IsDrawn drawn_of 1 x
    of_list (inl e) = subst (IsDrawn drawn_of 1) (sym e) refl
    of_list (inr (inl e)) = subst (IsDrawn drawn_of 1) (sym e) refl
    of_list (inr (inr (inl e))) = subst (IsDrawn drawn_of 1) (sym e) refl
    of_list (inr (inr (inr (inl e)))) = subst (IsDrawn drawn_of 1) (sym e) refl
    of_list (inr (inr (inr (inr n)))) = absurd n

    of_drawn : (y : ℕ) → IsDrawn drawn_of 1 y → IsListed y parent_nets
    of_drawn zero h = inr (inr (inr (inl refl)))
    of_drawn (suc zero) h = inr (inr (inl refl))
    of_drawn (suc (suc zero)) h = not_true h
    of_drawn (suc (suc (suc zero))) h = inl refl
    of_drawn (suc (suc (suc (suc zero)))) h = not_true h
    of_drawn (suc (suc (suc (suc (suc zero))))) h = inr (inl refl)
    of_drawn (suc (suc (suc (suc (suc (suc y)))))) h = none_some true h

child_named : (a k x : ℕ) → slice_get child_nets a ≡ Some x → slice_get (0 ∷ (1 ∷ (2 ∷ (3 ∷ [])))) k ≡ Some x → slice_get child_circuit.nets a ≡ slice_get (drawn_names (pins_of 0) (drawn_of 0)) k
child_named a k x e f =
    let spot : k ≡ x = each_at (λ i y. i ≡ y) (0 ∷ (1 ∷ (2 ∷ (3 ∷ [])))) (refl, (refl, (refl, (refl, tt)))) k x f in
    each_at (λ i y. slice_get child_circuit.nets i ≡ slice_get four_names y) child_nets (refl, (refl, (refl, (refl, tt)))) a x e
    ∙ ap (slice_get four_names) (sym spot) ∙ ap (λ (l : List (List ℕ)). slice_get l k) (sym child_names_are)

parent_named : (a k x : ℕ) → slice_get parent_nets a ≡ Some x → slice_get (0 ∷ (1 ∷ (3 ∷ (5 ∷ [])))) k ≡ Some x → slice_get parent_circuit.nets a ≡ slice_get (drawn_names (pins_of 1) (drawn_of 1)) k
parent_named a k x e f =
    let spot : k ≡ parent_order x = each_at (λ i y. i ≡ parent_order y) (0 ∷ (1 ∷ (3 ∷ (5 ∷ [])))) (refl, (refl, (refl, (refl, tt)))) k x f in
    each_at (λ i y. slice_get parent_circuit.nets i ≡ slice_get parent_four (parent_order y)) parent_nets (refl, (refl, (refl, (refl, tt)))) a x e
    ∙ ap (slice_get parent_four) (sym spot) ∙ ap (λ (l : List (List ℕ)). slice_get l k) (sym parent_names_are)

device_row : {R : ℕ → ℕ → Type 0} (source gate drain bulk a b c d : ℕ) → R source a → R gate b → R drain c → R bulk d → IsRowOver R (device_by rule (1000000 ∷ 1000000 ∷ []) (gate_on source gate drain bulk)) (row_on a b c d)
device_row source gate drain bulk a b c d s g e f = record { kind = refl; class = refl; sizes = refl; ends = (s, e); others = (g, (f, tt)) }

child_row : IsDeviceOfGate gate_rules 1000 child_nets (good child_gate) (row_on 3 2 0 1)
child_row = record { rule = rule; is = refl; over = device_row 0 2 1 3 3 2 0 1 refl refl refl refl }

parent_row : IsDeviceOfGate gate_rules 1000 parent_nets (good across_gate) (row_on 3 2 0 1)
parent_row = record { rule = rule; is = refl; over = device_row 0 1 3 5 3 2 0 1 refl refl refl refl }

abbrev Right : ℕ → ℕ → Circuit → Type 0
Right n cell c = IsCircuitOf gate_design gate_tables gates_of pins_of drawn_of gate_rules 1000 (0 ∷ (1 ∷ [])) n cell (parts_of cell) c

child_right : Right 0 0 child_circuit
child_right = record {
  has_name = refl;
  has_nets = record { apart = child_apart; each = child_drawn; count = refl; named = child_named };
  has_pins = record { count = refl; each = each_at (λ i x. slice_get child_nets i ≡ Some x) (1 ∷ (3 ∷ [])) (refl, (refl, tt)) };
  has_devices = record {
    count = refl;
    each = λ i gate row e f.
        let g = only_at (good child_gate) gate i e in
        let r = only_at (row_on 3 2 0 1) row i f in
        subst (λ k. IsDeviceOfGate gate_rules 1000 child_nets k row) (sym g.1) (subst (IsDeviceOfGate gate_rules 1000 child_nets (good child_gate)) (sym r.1) child_row);
  };
  has_calls = record {
    placements = λ k. ((λ n. absurd n), (λ h. absurd (no_place 0 k h.0 refl h.1)));
    rising = tt;
    count = refl;
    each = λ a k p row e. none_some k e;
  };
  normal = record {
    pins = each_at (λ i n. n ≡ i) (0 ∷ (1 ∷ [])) (refl, (refl, tt));
    numbered = inr (refl, inr (refl, inl (omega arith, inr (refl, inr (refl, inl (omega arith, refl))))));
  };
}

abbrev call : CallRow
call = record { circuit = 0; nets = 0 ∷ (1 ∷ []) }

-- where a pin's net of the child comes out
abbrev ComesOut : ℕ → ℕ → Type 0
ComesOut inner outer = (x : ℕ) × (slice_get parent_nets outer ≡ Some x) × IsNetOf (gate_tables.nets 1) (Child 0 inner) x

call_each : (i inner outer : ℕ) → slice_get (1 ∷ (3 ∷ [])) i ≡ Some inner → slice_get call.nets i ≡ Some outer → ComesOut inner outer
call_each i inner outer e f =
    each_at (λ j a. (o : ℕ) → slice_get call.nets j ≡ Some o → ComesOut a o) (1 ∷ (3 ∷ [])) (
      (λ o g. subst (ComesOut 1) (same_Some _ _ g) (3, refl, (3, record { listed = refl; numbered = refl }))),
      ((λ o g. subst (ComesOut 3) (same_Some _ _ g) (5, refl, (5, record { listed = refl; numbered = refl }))), tt),
    ) i inner e outer f

abbrev IsCalled : ℕ → Place → CallRow → Type 0
IsCalled k p row = IsCallOf gate_tables pins_of drawn_of (0 ∷ (1 ∷ [])) 1 k p parent_nets row

call_right : IsCalled 0 mirror_place call
call_right = record { circuit = refl; count = refl; each = call_each }

parent_right : Right 1 1 parent_circuit
parent_right = record {
  has_name = refl;
  has_nets = record { apart = parent_apart; each = parent_drawn; count = refl; named = parent_named };
  has_pins = record { count = refl; each = each_at (λ i x. slice_get parent_nets i ≡ Some x) (3 ∷ (5 ∷ [])) (refl, (refl, tt)) };
  has_devices = record {
    count = refl;
    each = λ i gate row e f.
        let g = only_at (good across_gate) gate i e in
        let r = only_at (row_on 3 2 0 1) row i f in
        subst (λ k. IsDeviceOfGate gate_rules 1000 parent_nets k row) (sym g.1) (subst (IsDeviceOfGate gate_rules 1000 parent_nets (good across_gate)) (sym r.1) parent_row);
  };
  has_calls = record {
    placements = λ k. (
      (λ l. elim l [ inl e ↦ subst (λ j. (p : Place) × IsPlaced gate_design 1 j p × IsListed p.cell (0 ∷ (1 ∷ []))) (sym e) (mirror_place, placed_here, inl refl) | inr n ↦ absurd n ]),
      (λ h. inl (one_place 1 k h.0 h.1).1),
    );
    rising = ((λ y n. absurd n), tt);
    count = refl;
    each = λ a k p row e placed f.
        let one = one_place 1 k p placed in
        let r = only_at call row a f in
        subst (λ j. IsCalled j p row) (sym one.1) (subst (λ (j : Place). IsCalled 0 j row) (sym one.2) (subst (IsCalled 0 mirror_place) (sym r.1) call_right));
  };
  normal = record {
    pins = each_at (λ i n. n ≡ i) (0 ∷ (1 ∷ [])) (refl, (refl, tt));
    numbered = inr (refl, inr (refl, inl (omega arith, inr (refl, inr (refl, inl (omega arith, inl (omega arith, inl (omega arith, refl))))))));
  };
}

circuit_at : (n cell : ℕ) (c : Circuit) → slice_get (0 ∷ (1 ∷ [])) n ≡ Some cell → IsCircuit gate_netlist n c → Right n cell c
circuit_at zero cell c e is =
    let f : child_circuit ≡ c = same_Some _ _ is in
    subst (λ k. Right 0 k c) (same_Some _ _ e) (subst (Right 0 0) f child_right)
circuit_at (suc zero) cell c e is =
    let f : parent_circuit ≡ c = same_Some _ _ is in
    subst (λ k. Right 1 k c) (same_Some _ _ e) (subst (Right 1 1) f parent_right)
circuit_at (suc (suc n)) cell c e is = none_some cell e

pub circuits : IsNetlistOf gate_design gate_tables gates_of pins_of drawn_of gate_rules 1000 (0 ∷ (1 ∷ [])) parts_of gate_netlist
circuits = record { count = refl; each = circuit_at }
