-- A circuit that was made over what was read is the cell's over all drawn nets that are right below.
use Rattle.std.proofs.Common.{◌≡◌, ◌⊎◌, inl, inr, ℕ, zero, suc, ◌<◌, Bool, true, List, [], ◌∷◌, Some, slice_get, length, refl, sym, subst, arith}
use Rattle.base_laws.proofs.Items.{item_at}
use Rattle.std.proofs.lemmas.Option.{slice_get_within}
use Rattle.flat_layout.specs.Circuits.{AreCircuitDevices, AreCircuitNets, AreCircuitPins, AreDrawn, CircuitParts, IsCircuitOf, IsDrawn, IsDrawnBelow, cell_circuit_names, pin_nets}
use Rattle.flat_layout.specs.Gates.{Rule}
use Rattle.flat_layout.specs.GateTables.{GateEntry, GoodGate, good_gates}
use Rattle.flat_layout.specs.Layout.{Design, IsHeight, Place, IsPlaced}
use Rattle.flat_layout.specs.Nets.{AreNets, CellNets, Child, IsUnder, Item, Tables}
use Rattle.flat_layout.specs.Pins.{CellPins, HasGate, IsNetOf}
use Rattle.flat_layout.specs.Regions.{Wiring}
use Rattle.geo_base.specs.declared.shapes.Rect.{Rect}
use Rattle.plain_netlist.proofs.Members.{listed, position}
use Rattle.plain_netlist.specs.Lists.{IsListed}
use Rattle.flat_laws.proofs.Devices.{device_net}
use Rattle.plain_netlist.specs.Netlist.{Circuit}
use Rattle.circuit_phase.specs.Made.{IsMadeOf}
use Rattle.circuit_phase.specs.Placed.{tables_with}
use Rattle.circuit_phase.proofs.Leading.{true_pin}

-- an item stands on one net
one_net : (d : Design) (w : Wiring) (t : Tables) (cell : ℕ) (v : CellNets) → AreNets d w t cell v → (item : Item) (x y : ℕ) → IsNetOf v item x → IsNetOf v item y → x ≡ y
one_net d w t cell v are item x y h g = (are.joined h.0 g.0 item item x y h.1 g.1).1 (record { via = []; chain = refl })

-- the drawn nets of a cell over others that say the same of the placed cells
pub drawn_over : (d : Design) (t : Tables) (l : List GateEntry) (of : ℕ → List GateEntry) (pins : ℕ → CellPins) (read drawn : ℕ → List Bool) (cell : ℕ) (marks : List Bool) → of cell ≡ l → ((k : ℕ) (p : Place) → IsPlaced d cell k p → read p.cell ≡ drawn p.cell)
    → AreDrawn d t (λ c. l) pins read cell marks → AreDrawn d t of pins drawn cell marks
drawn_over d t l of pins read drawn cell marks is same h = record {
  count = h.count;
  each = λ x lt. ((λ e. to x ((h.each x lt).0 e)), (λ g. (h.each x lt).1 (back x g)));
}
  where
    to : (x : ℕ) → HasGate (λ c. l) cell x ⊎ IsDrawnBelow d t pins read cell x → HasGate of cell x ⊎ IsDrawnBelow d t pins drawn cell x
    to x (inl (i, gate, at, e)) = inl (i, gate, subst (λ (m : List GateEntry). slice_get (good_gates m) i ≡ Some gate) (sym is) at, e)
    to x (inr b) = inr (record {
      number = b.number;
      place = b.place;
      net = b.net;
      placed = b.placed;
      is_of = b.is_of;
      is_pin = b.is_pin;
      is_drawn = subst (λ (m : List Bool). slice_get m b.net ≡ Some true) (same b.number b.place b.placed) b.is_drawn;
    })

    back : (x : ℕ) → HasGate of cell x ⊎ IsDrawnBelow d t pins drawn cell x → HasGate (λ c. l) cell x ⊎ IsDrawnBelow d t pins read cell x
    back x (inl (i, gate, at, e)) = inl (i, gate, subst (λ (m : List GateEntry). slice_get (good_gates m) i ≡ Some gate) is at, e)
    back x (inr b) = inr (record {
      number = b.number;
      place = b.place;
      net = b.net;
      placed = b.placed;
      is_of = b.is_of;
      is_pin = b.is_pin;
      is_drawn = subst (λ (m : List Bool). slice_get m b.net ≡ Some true) (sym (same b.number b.place b.placed)) b.is_drawn;
    })

-- a cell with a drawn net has a good gate in or below it
pub gate_below : (d : Design) (t : Tables) (of : ℕ → List GateEntry) (pins : ℕ → CellPins) (drawn : ℕ → List Bool) (height : ℕ → ℕ) → IsHeight d height → (n cell : ℕ) → height cell < n → ((e : ℕ) → IsUnder d cell e → AreDrawn d t of pins drawn e (drawn e))
    → (x : ℕ) → IsDrawn drawn cell x → (e : ℕ) × IsUnder d cell e × (gate : GoodGate) × IsListed gate (good_gates (of e))
gate_below d t of pins drawn height linked zero cell lt are x told = absurd (let z : ⊥ = omega (arith, lt) in z)
gate_below d t of pins drawn height linked (suc n) cell lt are x told = chosen (((are cell ([], refl)).each x (let low = slice_get_within (drawn cell) x true told in let long = (are cell ([], refl)).count in omega (arith, low, long))).0 told)
    (λ k p b placed there. let less = linked cell k p placed in gate_below d t of pins drawn height linked n p.cell (omega (arith, less, lt)) (λ e under. are e (k ∷ under.0, (p, placed, under.1))) b there)
  where
    chosen : HasGate of cell x ⊎ IsDrawnBelow d t pins drawn cell x → ((k : ℕ) (p : Place) (b : ℕ) → IsPlaced d cell k p → IsDrawn drawn p.cell b → (e : ℕ) × IsUnder d p.cell e × (gate : GoodGate) × IsListed gate (good_gates (of e)))
        → (e : ℕ) × IsUnder d cell e × (gate : GoodGate) × IsListed gate (good_gates (of e))
    chosen (inl (i, gate, at, e)) rest = (cell, ([], refl), gate, listed (good_gates (of cell)) i gate at)
    chosen (inr b) rest = let r = rest b.number b.place b.net b.placed b.is_drawn in (r.0, (b.number ∷ r.1.0, (b.place, b.placed, r.1.1)), r.2, r.3)

module _ (d : Design) (w : Wiring) (nets : ℕ → CellNets) (own : ℕ → ℕ → List Rect) (of : ℕ → List GateEntry) (pins : ℕ → CellPins) (read drawn : ℕ → List Bool) (circuits : List ℕ) (cell : ℕ) (l : List GateEntry) (marks : List Bool) (rules : List Rule) (unit : ℕ) (c : Circuit) (made : IsMadeOf d nets pins read circuits cell l marks rules unit c) where
  abbrev t : Tables
  t = tables_with own nets

  module _ (is : of cell ≡ l) (here : drawn cell ≡ marks) (same : (k : ℕ) (p : Place) → IsPlaced d cell k p → read p.cell ≡ drawn p.cell) (right : AreNets d w t cell (nets cell)) (are : AreDrawn d t of pins drawn cell marks)
      (known : (k b : ℕ) (p : Place) → IsPlaced d cell k p → IsDrawn drawn p.cell b → IsListed p.cell circuits) where
    on_device : (x : ℕ) → HasGate of cell x → IsListed x made.on
    on_device x (i, gate, at, e) =
        let here_at = subst (λ (m : List GateEntry). slice_get (good_gates m) i ≡ Some gate) is at in
        let lt = slice_get_within (good_gates l) i gate here_at in
        let long = made.has_devices.count in
        let row = item_at c.devices i (omega (arith, lt, long)) in
        let net = device_net rules unit made.on gate row.0 (made.has_devices.each i gate row.0 here_at row.1) x e in
        listed made.on net.0 x net.2

    on_call : (x : ℕ) → IsDrawnBelow d t pins drawn cell x → IsListed x made.on
    on_call x b =
        let p = b.place in
        let calls = made.has_calls own in
        let k = position made.calls b.number ((calls.placements b.number).1 (p, b.placed, known b.number b.net p b.placed b.is_drawn)) in
        let lt = slice_get_within made.calls k.0 b.number k.1 in
        let long = calls.count in
        let row = item_at c.calls k.0 (omega (arith, lt, long)) in
        let call = calls.each k.0 b.number p row.0 k.1 b.placed row.1 in
        let drawn_there = subst (λ (m : List Bool). slice_get m b.net ≡ Some true) (sym (same b.number p b.placed)) b.is_drawn in
        let i = position (pin_nets (pins p.cell) (read p.cell)) b.net (true_pin (pins p.cell) (read p.cell) b.net b.is_pin drawn_there) in
        let less = slice_get_within (pin_nets (pins p.cell) (read p.cell)) i.0 b.net i.1 in
        let size = call.count in
        let outer = item_at row.0.nets i.0 (omega (arith, less, size)) in
        let net = call.each i.0 b.net outer.0 i.1 outer.1 in
        let e : net.0 ≡ x = one_net d w t cell (nets cell) right (Child b.number b.net) net.0 x net.2 b.is_of in
        subst (λ y. IsListed y made.on) e (listed made.on outer.0 net.0 net.1)

    found : (x : ℕ) → slice_get marks x ≡ Some true → IsListed x made.on
    found x told = elim ((are.each x (let low = slice_get_within marks x true told in let long = are.count in omega (arith, low, long))).0 told) [
      | inl gate ↦ on_device x gate
      | inr b ↦ on_call x b
    ]

    pub completed : (n : ℕ) → slice_get (cell_circuit_names d circuits) n ≡ Some c.name → (parts : CircuitParts) × IsCircuitOf d t of pins drawn rules unit circuits n cell parts c
    completed n name =
        let back = sym here in (
          record { nets = made.on; calls = made.calls },
          record {
            has_name = name;
            has_nets = subst (λ (m : List Bool). AreCircuitNets (pins cell) m made.on c) back (record {
              apart = made.apart;
              each = λ x. (made.are_drawn x, found x);
              count = made.count;
              named = made.named;
            });
            has_pins = subst (λ (m : List Bool). AreCircuitPins (pins cell) m made.on c) back made.has_pins;
            has_devices = subst (λ (m : List GateEntry). AreCircuitDevices rules unit m made.on c) (sym is) made.has_devices;
            has_calls = record {
              placements = (made.has_calls own).placements;
              rising = (made.has_calls own).rising;
              count = (made.has_calls own).count;
              each = λ a k p row at placed there.
                  let call = (made.has_calls own).each a k p row at placed there in
                  let e = same k p placed in
                  record {
                    circuit = call.circuit;
                    count = subst (λ (m : List Bool). length row.nets ≡ length (pin_nets (pins p.cell) m)) e call.count;
                    each = λ i inner outer g. call.each i inner outer (subst (λ (m : List Bool). slice_get (pin_nets (pins p.cell) m) i ≡ Some inner) (sym e) g);
                  };
            };
            normal = made.normal;
          },
        )
