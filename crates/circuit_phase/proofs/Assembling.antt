-- The circuit of a cell from its pins, its transistors and its calls.
use Rattle.std.proofs.Common.{◌≡◌, inl, inr, ℕ, ◌<◌, Bool, true, List, [], ◌++◌, Some, flat_map, slice_get, length, sym, ◌∙◌, ap, subst, arith}
use Rattle.base_laws.proofs.Items.{item_at}
use Rattle.std.proofs.lemmas.Option.{same_Some, slice_get_within}
use Rattle.flat_layout.specs.Circuits.{AreCircuitDevices, AreDrawn, IsDrawnBelow, drawn_names, drawn_nets, pin_nets}
use Rattle.flat_layout.specs.Gates.{Rule}
use Rattle.flat_layout.specs.GateTables.{GateEntry, gate_nets, good_gates}
use Rattle.flat_layout.specs.Layout.{Design}
use Rattle.flat_layout.specs.Nets.{CellNets, Child}
use Rattle.flat_layout.specs.Pins.{CellPins, HasGate, IsNetOf}
use Rattle.flat_layout.specs.Regions.{Wiring}
use Rattle.geo_base.specs.declared.shapes.Rect.{Rect}
use Rattle.plain_netlist.proofs.Members.{either_side, from_all, listed, position}
use Rattle.plain_netlist.specs.Lists.{AreApart, IsListed}
use Rattle.flat_laws.proofs.Devices.{gate_net}
use Rattle.plain_netlist.specs.Devices.{terminal_nets}
use Rattle.plain_netlist.specs.Netlist.{CallRow, Circuit, DeviceRow}
use Rattle.plain_netlist.specs.Normal.{AreNumbered, appearances}
use Rattle.circuit_phase.specs.Calls.{AreCallsTo}
use Rattle.circuit_phase.specs.Made.{IsMadeOf}
use Rattle.circuit_phase.specs.Numbering.{AreKept, AreNumbersOf}
use Rattle.circuit_phase.specs.Placed.{AreNetsOver, placed_cells, tables_with}
use Rattle.circuit_phase.proofs.Adding.{device_kept}
use Rattle.circuit_phase.proofs.Drawing.{placed_within}
use Rattle.circuit_phase.proofs.Leading.{in_turn, numbered_in, pin_true, pins_apart}
use Rattle.circuit_phase.proofs.Series.{numbered_on}

-- pins come first

pub pin_number : (pins : CellPins) (marks : List Bool) (new numbers : List ℕ) → AreNumbersOf [] new (pin_nets pins marks) numbers → (i n : ℕ) → slice_get numbers i ≡ Some n → n ≡ i
pin_number pins marks new numbers h i n at =
    let e = in_turn (length new) 0 (pin_nets pins marks) numbers new (λ j x lt there l. absurd (let z : ⊥ = omega (arith, lt) in z)) h.count h.each (pins_apart pins marks) h.numbered i n at in
    omega (arith, e)

pub pin_there : (pins : CellPins) (marks : List Bool) (first new numbers : List ℕ) → AreNumbersOf [] first (pin_nets pins marks) numbers → AreKept first new → (i x : ℕ) → slice_get (pin_nets pins marks) i ≡ Some x → slice_get new i ≡ Some x
pin_there pins marks first new numbers h keep i x at =
    let lt = slice_get_within (pin_nets pins marks) i x at in
    let long = h.count in
    let n = item_at numbers i (omega (arith, lt, long)) in
    keep i x (subst (λ k. slice_get first k ≡ Some x) (pin_number pins marks first numbers h i n.0 n.1) (h.each i x n.0 at n.1))

pub devices_kept : (rules : List Rule) (unit : ℕ) (l : List GateEntry) (old new : List ℕ) (c : Circuit) → AreKept old new → AreCircuitDevices rules unit l old c → AreCircuitDevices rules unit l new c
devices_kept rules unit l old new c keep h = record {
  count = h.count;
  each = λ i gate row at there. device_kept rules unit old new gate row keep (h.each i gate row at there);
}

-- a terminal of a row
module _ (d : Design) (w : Wiring) (nets : ℕ → CellNets) (pins : ℕ → CellPins) (drawn : ℕ → List Bool) (circuits : List ℕ) (cell : ℕ) (v : CellNets) (l : List GateEntry) (marks : List Bool) (rules : List Rule) (unit : ℕ) where
  abbrev AreMarks : Type 0
  AreMarks = (own : ℕ → ℕ → List Rect) → AreDrawn d (tables_with own nets) (λ c. l) pins drawn cell marks

  -- each net of the circuit is drawn
  drawn_pin : (first new numbers : List ℕ) → AreNumbersOf [] first (pin_nets (pins cell) marks) numbers → AreKept first new → (i x : ℕ) → IsListed i numbers → slice_get new i ≡ Some x → slice_get marks x ≡ Some true
  drawn_pin first new numbers h keep i x inside at =
      let j = position numbers i inside in
      let lt = slice_get_within numbers j.0 i j.1 in
      let long = h.count in
      let y = item_at (pin_nets (pins cell) marks) j.0 (omega (arith, lt, long)) in
      let same : y.0 ≡ x = same_Some y.0 x (sym (keep i y.0 (h.each j.0 y.0 i y.1 j.1)) ∙ at) in
      (pin_true (pins cell) marks x (subst (λ z. IsListed z (pin_nets (pins cell) marks)) same (listed (pin_nets (pins cell) marks) j.0 y.0 y.1))).1

  drawn_terminal : AreMarks → nets cell ≡ v → ((x : ℕ) → HasGate (λ c. l) cell x → x < v.count) → (new : List ℕ) (c : Circuit) → AreCircuitDevices rules unit l new c → (i x : ℕ) → IsListed i (flat_map terminal_nets c.devices) → slice_get new i ≡ Some x → slice_get marks x ≡ Some true
  drawn_terminal are same under new c devices i x inside at =
      let r = from_all terminal_nets c.devices i inside in
      let j = position c.devices r.0 r.1 in
      let lt = slice_get_within c.devices j.0 r.0 j.1 in
      let long = devices.count in
      let gate = item_at (good_gates l) j.0 (omega (arith, lt, long)) in
      let net = gate_net rules unit new gate.0 r.0 (devices.each j.0 gate.0 r.0 gate.1 j.1) i r.2 in
      let is : net.0 ≡ x = same_Some net.0 x (sym net.2 ∙ at) in
      let has : HasGate (λ c. l) cell x = (j.0, gate.0, gate.1, subst (λ y. IsListed y (gate_nets gate.0.row)) is net.1) in
      let low = under x has in
      let count = ap (λ (n : CellNets). n.count) same in
      ((are (λ c k. [])).each x (omega (arith, low, count))).1 (inl has)

  drawn_call : AreMarks → nets cell ≡ v → AreNetsOver d w nets cell v → (n : ℕ) (old new : List ℕ) (rows : List CallRow) → AreCallsTo d nets pins drawn circuits cell n old new rows → (i x : ℕ) → IsListed i (flat_map (λ (r : CallRow). r.nets) rows) → slice_get new i ≡ Some x → slice_get marks x ≡ Some true
  drawn_call are same over n old new rows h i x inside at =
      let own = over.0 in
      let r = from_all (λ (r : CallRow). r.nets) rows i inside in
      let a = position rows r.0 r.1 in
      let lt = slice_get_within rows a.0 r.0 a.1 in
      let long = h.count in
      let k = item_at h.calls a.0 (omega (arith, lt, long)) in
      let placed = (h.placements k.0).0 (listed h.calls a.0 k.0 k.1) in
      let p = placed.1 in
      let call = h.each own a.0 k.0 p r.0 k.1 placed.2 a.1 in
      let j = position r.0.nets i r.2 in
      let less = slice_get_within r.0.nets j.0 i j.1 in
      let size = call.count in
      let b = item_at (pin_nets (pins p.cell) (drawn p.cell)) j.0 (omega (arith, less, size)) in
      let net = call.each j.0 b.0 i b.1 j.1 in
      let is : net.0 ≡ x = same_Some net.0 x (sym net.1 ∙ at) in
      let inside_there = pin_true (pins p.cell) (drawn p.cell) b.0 (listed (pin_nets (pins p.cell) (drawn p.cell)) j.0 b.0 b.1) in
      let of : IsNetOf (nets cell) (Child k.0 b.0) x = subst (λ y. IsNetOf (nets cell) (Child k.0 b.0) y) is net.2 in
      let here : IsNetOf v (Child k.0 b.0) x = subst (λ u. IsNetOf u (Child k.0 b.0) x) same of in
      let low = over.1.below here.0 x here.1.numbered in
      let count = ap (λ (n : CellNets). n.count) same in
      let below : IsDrawnBelow d (tables_with own nets) pins drawn cell x = record { number = k.0; place = p; net = b.0; placed = placed.2; is_of = of; is_pin = inside_there.0; is_drawn = inside_there.1 } in
      ((are own).each x (omega (arith, low, count))).1 (inr below)

  pub all_drawn : AreMarks → nets cell ≡ v → AreNetsOver d w nets cell v → ((x : ℕ) → HasGate (λ c. l) cell x → x < v.count) → (n : ℕ) (first mid new numbers : List ℕ) (c : Circuit) → AreNumbersOf [] first (pin_nets (pins cell) marks) numbers → c.pins ≡ numbers
      → AreKept first mid → AreCircuitDevices rules unit l mid c → AreNumbered (length mid) (length first) (flat_map terminal_nets c.devices) → AreCallsTo d nets pins drawn circuits cell n mid new c.calls → (i x : ℕ) → slice_get new i ≡ Some x → slice_get marks x ≡ Some true
  all_drawn are same over under n first mid new numbers c lead is keep devices counted calls i x at =
      let kept : AreKept first new = λ j y k. calls.kept j y (keep j y k) in
      let rows = flat_map (λ (r : CallRow). r.nets) c.calls in
      let terminals = flat_map terminal_nets c.devices in
      let all : AreNumbered (length new) 0 (numbers ++ (terminals ++ rows)) = numbered_on (length new) (length first) 0 numbers (terminals ++ rows) lead.numbered (numbered_on (length new) (length mid) (length first) terminals rows counted calls.numbered) in
      elim (either_side numbers (terminals ++ rows) i (numbered_in (length new) 0 (numbers ++ (terminals ++ rows)) all i (omega arith) (slice_get_within new i x at))) [
        | inl a ↦ drawn_pin first new numbers lead kept i x a at
        | inr b ↦ elim (either_side terminals rows i b) [
          | inl e ↦ drawn_terminal are same under new c (devices_kept rules unit l mid new c calls.kept devices) i x e at
          | inr f ↦ drawn_call are same over n mid new c.calls calls i x f at
        ]
      ]

  pub made_of : AreMarks → nets cell ≡ v → AreNetsOver d w nets cell v → ((x : ℕ) → HasGate (λ c. l) cell x → x < v.count) → (n : ℕ) (first mid new numbers : List ℕ) (c : Circuit) → n ≡ length (placed_cells d cell) → AreNumbersOf [] first (pin_nets (pins cell) marks) numbers → c.pins ≡ numbers
      → AreKept first mid → AreCircuitDevices rules unit l mid c → AreNumbered (length mid) (length first) (flat_map terminal_nets c.devices) → AreCallsTo d nets pins drawn circuits cell n mid new c.calls
      → AreApart new → length c.nets ≡ length new → ((a k x : ℕ) → slice_get new a ≡ Some x → slice_get (drawn_nets marks) k ≡ Some x → slice_get c.nets a ≡ slice_get (drawn_names (pins cell) marks) k)
      → IsMadeOf d nets pins drawn circuits cell l marks rules unit c
  made_of are same over under n first mid new numbers c e lead is keep devices counted calls apart count named =
      let kept : AreKept first new = λ j y k. calls.kept j y (keep j y k) in
      let rows = flat_map (λ (r : CallRow). r.nets) c.calls in
      let terminals = flat_map terminal_nets c.devices in
      let all : AreNumbered (length new) 0 (numbers ++ (terminals ++ rows)) = numbered_on (length new) (length first) 0 numbers (terminals ++ rows) lead.numbered (numbered_on (length new) (length mid) (length first) terminals rows counted calls.numbered) in
      record {
        on = new;
        calls = calls.calls;
        apart = apart;
        are_drawn = λ x h. (let r = position new x h in all_drawn are same over under n first mid new numbers c lead is keep devices counted calls r.0 x r.1);
        count = count;
        named = named;
        has_pins = record { count = ap (λ (k : List ℕ). length k) is ∙ lead.count; each = pin_there (pins cell) marks first new numbers lead kept };
        has_devices = devices_kept rules unit l mid new c calls.kept devices;
        has_calls = λ own. record {
          placements = λ k. ((λ h. let r = (calls.placements k).0 h in (r.1, r.2, r.3)), (λ r. (calls.placements k).1 ((let lt = placed_within d cell k r.0 r.1 in omega (arith, lt, e)), r.0, r.1, r.2)));
          rising = calls.rising;
          count = calls.count;
          each = calls.each own;
        };
        normal = record {
          pins = λ i k at. pin_number (pins cell) marks first numbers lead i k (subst (λ z. slice_get z i ≡ Some k) is at);
          numbered = subst (λ k. AreNumbered k 0 (appearances c)) (sym count) (subst (λ z. AreNumbered (length new) 0 (z ++ (terminals ++ rows))) (sym is) all);
        };
      }
