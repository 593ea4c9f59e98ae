use Rattle.std.proofs.Common.{◌≡◌, ◌∙◌, ℕ, List, [], ap, arith, length, map, slice_get, Some, true, refl, subst, sym}
use Rattle.deep_tables.specs.Gates.{plain_gate}
use Rattle.deep_tables.specs.Nets.{plain_nets}
use Rattle.deep_tables.specs.Pins.{plain_pins}
use Rattle.flat_layout.specs.Circuits.{drawn_names, drawn_nets, pin_nets}
use Rattle.flat_layout.specs.Nets.{CellNets}
use Rattle.flat_layout.specs.Pins.{CellPins}
use Rattle.net_model.specs.Rows.{plain_call, plain_device}
use Rattle.plain_netlist.specs.Netlist.{Circuit}
use Rattle.rule_layers.specs.Meaning.{device_rules}
use Rattle.rule_text.specs.Seen.{rules_seen}
use Rattle.circuit_phase.specs.Numbering.{AreNumbersOf}
use Rattle.circuit_phase.proofs.Assembling.{all_drawn, made_of}
use Rattle.net_marks.proofs.Listed.{gate_of}
use Rattle.circuit_phase.proofs.Leading.{pins_low}
use Rattle.circuit_phase.proofs.made.cell_circuit.Goals as goal

pub pin_nets-requires-clause-few : goal.pin_nets-requires-clause-few
pin_nets-requires-clause-few g c = let low = c.in_ok-number.ensures.few in omega (arith, low)

pub pin_nets-requires-clause-count : goal.pin_nets-requires-clause-count
pin_nets-requires-clause-count g c =
    let e = (c.requires.drawn (λ x k. [])).count in
    let f = ap (λ (n : CellNets). n.count) c.requires.nets in
    c.requires.pin_count ∙ sym (e ∙ f)

pub number_nets-requires : goal.number_nets-requires
number_nets-requires g c =
    let e = (c.requires.drawn (λ x k. [])).count in
    let f = ap (λ (n : CellNets). n.count) c.requires.nets in
    pins_low (plain_pins c.args.parts.now.pins.now) c.args.drawn.now c.deref.result.now c.in_ok-numbering.numbering.count (c.deref.ensures.value ∙ c.in_ok-first.ensures) (e ∙ f ∙ sym c.in_ok-numbering.ensures.count)

pub device_rows-requires-clause-terminals : goal.device_rows-requires-clause-terminals
device_rows-requires-clause-terminals g c = λ x h.
    let lt = c.requires.terminals x (gate_of x (map plain_gate c.args.parts.now.gates.now) h) in
    let e = c.in_ok-pins.ensures.count in
    let f = c.in_ok-numbering.ensures.count in
    omega (arith, lt, e, f)

pub call_rows-requires-clause-within : goal.call_rows-requires-clause-within
call_rows-requires-clause-within g c = c.in_ok-devices.ensures.count ∙ c.in_ok-pins.ensures.count ∙ c.in_ok-numbering.ensures.count

pub circuit_net_names-requires-clause-few : goal.circuit_net_names-requires-clause-few
circuit_net_names-requires-clause-few g c = let low = c.in_ok-number.ensures.few in omega (arith, low)

pub circuit_net_names-requires-clause-count : goal.circuit_net_names-requires-clause-count
circuit_net_names-requires-clause-count g c =
    let e = (c.requires.drawn (λ x k. [])).count in
    let f = ap (λ (n : CellNets). n.count) c.requires.nets in
    c.requires.name_count ∙ sym (e ∙ f)

pub circuit_net_names-requires-clause-drawn : goal.circuit_net_names-requires-clause-drawn
circuit_net_names-requires-clause-drawn g c =
    let p = c.args.placed.now in
    let parts = c.args.parts.now in
    let marks = c.args.drawn.now in
    let cell = c.args.parts.now.cell in
    let first = c.number_nets.new.numbering.nets in
    let new = c.call_rows.new.numbering.nets in
    let numbers = c.in_ok-pins.pins.items in
    let lead : AreNumbersOf [] first (pin_nets (g.P.Placed.pins p cell) marks) numbers = subst (λ (u : CellPins). AreNumbersOf [] first (pin_nets u marks) numbers) (sym c.requires.pins)
    (subst (λ (z : List ℕ). AreNumbersOf [] first z numbers) (c.deref.ensures.value ∙ c.in_ok-first.ensures) (subst (λ (z : List ℕ). AreNumbersOf z first c.deref.result.now numbers) c.in_ok-numbering.ensures.nets c.in_ok-pins.ensures.numbers)) in
    let r = rules_seen parts.rules.now in
    let x : Circuit = record { name = []; nets = []; pins = numbers; devices = map plain_device c.in_ok-devices.devices.items; calls = map plain_call c.in_ok-calls.calls.items } in
    let all = all_drawn (g.P.Placed.design p) (g.P.Placed.wiring p) (g.P.Placed.nets p) (g.P.Placed.pins p) (g.P.Placed.drawn p) (g.P.Placed.circuits p) cell (plain_nets parts.nets.now) (map plain_gate parts.gates.now) marks (device_rules r) parts.unit_pm
    c.requires.drawn c.requires.nets c.requires.right c.requires.terminals (length c.args.parts.now.cells.now) first c.device_rows.new.numbering.nets new numbers x lead refl c.in_ok-devices.ensures.kept (c.in_ok-devices.ensures.devices x refl) c.in_ok-devices.ensures.numbered c.in_ok-calls.ensures.calls in
    subst (λ (l : List ℕ). (i y : ℕ) → slice_get l i ≡ Some y → slice_get marks y ≡ Some true) (sym (c.deref-2.ensures.value ∙ c.into_nets-on.ensures.nets)) all

pub returns-clause-made : goal.returns-clause-made
returns-clause-made g c =
    let p = c.args.placed.now in
    let parts = c.args.parts.now in
    let marks = c.args.drawn.now in
    let cell = c.args.parts.now.cell in
    let first = c.number_nets.new.numbering.nets in
    let new = c.call_rows.new.numbering.nets in
    let numbers = c.in_ok-pins.pins.items in
    let lead : AreNumbersOf [] first (pin_nets (g.P.Placed.pins p cell) marks) numbers = subst (λ (u : CellPins). AreNumbersOf [] first (pin_nets u marks) numbers) (sym c.requires.pins)
    (subst (λ (z : List ℕ). AreNumbersOf [] first z numbers) (c.deref.ensures.value ∙ c.in_ok-first.ensures) (subst (λ (z : List ℕ). AreNumbersOf z first c.deref.result.now numbers) c.in_ok-numbering.ensures.nets c.in_ok-pins.ensures.numbers)) in
    let r = rules_seen parts.rules.now in
    let names : List (List ℕ) = c.in_ok-nets.nets.items in
    let x : Circuit = record { name = c.args.name; nets = names; pins = numbers; devices = map plain_device c.in_ok-devices.devices.items; calls = map plain_call c.in_ok-calls.calls.items } in
    let e = c.deref-2.ensures.value ∙ c.into_nets-on.ensures.nets in
    let named = subst (λ (u : CellPins). (a k y : ℕ) → slice_get new a ≡ Some y → slice_get (drawn_nets marks) k ≡ Some y → slice_get names a ≡ slice_get (drawn_names u marks) k) (sym c.requires.pins)
    (subst (λ (l : List ℕ). (a k y : ℕ) → slice_get l a ≡ Some y → slice_get (drawn_nets marks) k ≡ Some y → slice_get names a ≡ slice_get (drawn_names (plain_pins parts.pins.now) marks) k) e c.in_ok-nets.ensures.named) in
    made_of (g.P.Placed.design p) (g.P.Placed.wiring p) (g.P.Placed.nets p) (g.P.Placed.pins p) (g.P.Placed.drawn p) (g.P.Placed.circuits p) cell (plain_nets parts.nets.now) (map plain_gate parts.gates.now) marks (device_rules r) parts.unit_pm
    c.requires.drawn c.requires.nets c.requires.right c.requires.terminals (length c.args.parts.now.cells.now) first c.device_rows.new.numbering.nets new numbers x (ap (λ (l : List ℕ). length l) c.requires.cells) lead refl c.in_ok-devices.ensures.kept (c.in_ok-devices.ensures.devices x refl) c.in_ok-devices.ensures.numbered c.in_ok-calls.ensures.calls
    c.into_nets-on.ensures.apart (c.in_ok-nets.ensures.count ∙ ap (λ (l : List ℕ). length l) e) named
