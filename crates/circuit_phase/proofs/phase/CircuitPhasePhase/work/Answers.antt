use Rattle.std.proofs.Common.{◌∙◌, ℕ, Bool, List, ap, get_or, map, subst, sym}
use Rattle.cell_graph.specs.Linked.{plain}
use Rattle.deep_tables.specs.Circuits.{IsCellCircuit, plain_or_none}
use Rattle.deep_tables.specs.Entries.{upward_cell}
use Rattle.deep_tables.specs.Gates.{plain_gate}
use Rattle.deep_tables.specs.Pins.{pins_of}
use Rattle.deep_tables.specs.declared.circuits.CellCircuit.{CellCircuit}
use Rattle.flat_layout.specs.Circuits.{AreDrawn, cell_circuit_names}
use Rattle.rule_layers.specs.Meaning.{device_rules}
use Rattle.rule_text.specs.Seen.{rules_seen}
use Rattle.circuit_phase.specs.Below.{drawn_by}
use Rattle.circuit_phase.specs.Made.{IsMadeOr}
use Rattle.circuit_phase.specs.Phase.{CircuitJobs, nets_at}
use Rattle.circuit_phase.specs.Placed.{IsNumberOf, tables_with}
use Rattle.circuit_phase.proofs.Numbers.{name_in}
use Rattle.circuit_phase.proofs.Righting.{at_work, cell_right, nets_over, pin_counts, readable, rules_in, under_count}
use Rattle.circuit_phase.proofs.phase.CircuitPhasePhase.work.Goals as goal

pub drawn_marks-requires-clause-right : goal.drawn_marks-requires-clause-right
drawn_marks-requires-clause-right g c =
    let at = at_work c.self.invariant c.self.view_is c.sound.ensures c.requires.job (ap (λ (l : List ℕ). get_or l c.args.job 0) c.order.ensures) c.deref-2.ensures.value c.deref-3.ensures.value c.deref.ensures.value
    (g.R.Reads.may_read c.args.reads.now) (g.R.Reads.value c.args.reads.now) c.requires.inputs c.requires.right in
    nets_over at c.of.result.now c.of.ensures

pub drawn_marks-requires-clause-readable : goal.drawn_marks-requires-clause-readable
drawn_marks-requires-clause-readable g c =
    let at = at_work c.self.invariant c.self.view_is c.sound.ensures c.requires.job (ap (λ (l : List ℕ). get_or l c.args.job 0) c.order.ensures) c.deref-2.ensures.value c.deref-3.ensures.value c.deref.ensures.value
    (g.R.Reads.may_read c.args.reads.now) (g.R.Reads.value c.args.reads.now) c.requires.inputs c.requires.right in
    readable at

pub drawn_marks-requires-clause-terminals : goal.drawn_marks-requires-clause-terminals
drawn_marks-requires-clause-terminals g c =
    let at = at_work c.self.invariant c.self.view_is c.sound.ensures c.requires.job (ap (λ (l : List ℕ). get_or l c.args.job 0) c.order.ensures) c.deref-2.ensures.value c.deref-3.ensures.value c.deref.ensures.value
    (g.R.Reads.may_read c.args.reads.now) (g.R.Reads.value c.args.reads.now) c.requires.inputs c.requires.right in
    under_count at c.of.result.now c.of-2.result.now c.of.ensures c.of-2.ensures

pub circuit_or_none-requires-clause-right : goal.circuit_or_none-requires-clause-right
circuit_or_none-requires-clause-right g c =
    let at = at_work c.self.invariant c.self.view_is c.sound.ensures c.requires.job (ap (λ (l : List ℕ). get_or l c.args.job 0) c.order.ensures) c.deref-2.ensures.value c.deref-3.ensures.value c.deref.ensures.value
    (g.R.Reads.may_read c.args.reads.now) (g.R.Reads.value c.args.reads.now) c.requires.inputs c.requires.right in
    nets_over at c.of.result.now c.of.ensures

pub circuit_or_none-requires-clause-readable : goal.circuit_or_none-requires-clause-readable
circuit_or_none-requires-clause-readable g c =
    let at = at_work c.self.invariant c.self.view_is c.sound.ensures c.requires.job (ap (λ (l : List ℕ). get_or l c.args.job 0) c.order.ensures) c.deref-2.ensures.value c.deref-3.ensures.value c.deref.ensures.value
    (g.R.Reads.may_read c.args.reads.now) (g.R.Reads.value c.args.reads.now) c.requires.inputs c.requires.right in
    readable at

pub circuit_or_none-requires-clause-terminals : goal.circuit_or_none-requires-clause-terminals
circuit_or_none-requires-clause-terminals g c =
    let at = at_work c.self.invariant c.self.view_is c.sound.ensures c.requires.job (ap (λ (l : List ℕ). get_or l c.args.job 0) c.order.ensures) c.deref-2.ensures.value c.deref-3.ensures.value c.deref.ensures.value
    (g.R.Reads.may_read c.args.reads.now) (g.R.Reads.value c.args.reads.now) c.requires.inputs c.requires.right in
    under_count at c.of.result.now c.of-2.result.now c.of.ensures c.of-2.ensures

pub circuit_or_none-requires-clause-drawn : goal.circuit_or_none-requires-clause-drawn
circuit_or_none-requires-clause-drawn g c =
    let a = c.self.inside in
    let cell = get_or c.order.result.now c.args.job 0 in
    λ own. subst (λ (m : List Bool). AreDrawn (plain a.design.now) (tables_with own (nets_at a.nets.now)) (λ x. map plain_gate c.of-2.result.now) (pins_of a.pins.now) (drawn_by (g.R.Reads.value c.args.reads.now) c.deref.result.now) cell m) (sym c.deref-8.ensures.value) (c.in_ok-drawn.ensures own)

pub circuit_or_none-requires-clause-name_count : goal.circuit_or_none-requires-clause-name_count
circuit_or_none-requires-clause-name_count g c =
    let at = at_work c.self.invariant c.self.view_is c.sound.ensures c.requires.job (ap (λ (l : List ℕ). get_or l c.args.job 0) c.order.ensures) c.deref-2.ensures.value c.deref-3.ensures.value c.deref.ensures.value
    (g.R.Reads.may_read c.args.reads.now) (g.R.Reads.value c.args.reads.now) c.requires.inputs c.requires.right in
    (pin_counts at c.of.result.now c.of-3.result.now c.of.ensures c.of-3.ensures).1

pub circuit_or_none-requires-clause-rules : goal.circuit_or_none-requires-clause-rules
circuit_or_none-requires-clause-rules g c =
    let at = at_work c.self.invariant c.self.view_is c.sound.ensures c.requires.job (ap (λ (l : List ℕ). get_or l c.args.job 0) c.order.ensures) c.deref-2.ensures.value c.deref-3.ensures.value c.deref.ensures.value
    (g.R.Reads.may_read c.args.reads.now) (g.R.Reads.value c.args.reads.now) c.requires.inputs c.requires.right in
    rules_in at c.of-2.result.now c.of-2.ensures

pub circuit_or_none-requires-clause-names : goal.circuit_or_none-requires-clause-names
circuit_or_none-requires-clause-names g c =
    let a = c.self.inside in
    let cell = get_or c.order.result.now c.args.job 0 in
    name_in (plain a.design.now) a.circuits.cells.items c.deref-4.result.now c.deref-9.result.now cell c.number_of-number.result c.deref-4.ensures.value (c.deref-9.ensures.value ∙ c.self.invariant.names) c.number_of-number.ensures

pub returns : goal.returns
returns g c =
    let a = c.self.inside in
    let cell = get_or c.order.result.now c.args.job 0 in
    let at = at_work c.self.invariant c.self.view_is c.sound.ensures c.requires.job (ap (λ (l : List ℕ). get_or l c.args.job 0) c.order.ensures) c.deref-2.ensures.value c.deref-3.ensures.value c.deref.ensures.value
    (g.R.Reads.may_read c.args.reads.now) (g.R.Reads.value c.args.reads.now) c.requires.inputs c.requires.right in
    let d = a.design.now in
    let r = rules_seen a.rules.now in
    let read = drawn_by (g.R.Reads.value c.args.reads.now) c.deref.result.now in
    let l = c.of-2.result.now in
    let v : CellCircuit = record { circuit = c.in_ok-circuit.circuit; drawn = c.in_ok-drawn.drawn } in
    let number = c.number_of-number.result in
    let numbered = subst (λ (x : List ℕ). IsNumberOf x cell number) (c.deref-4.ensures.value ∙ sym c.deref-2.ensures.value) c.number_of-number.ensures in
    let names = c.deref-9.ensures.value ∙ c.self.invariant.names ∙ sym (ap (cell_circuit_names (plain d)) c.deref-2.ensures.value) in
    let made = subst (λ (x : List (List ℕ)). IsMadeOr (plain d) (nets_at a.nets.now) (pins_of a.pins.now) read c.deref-2.result.now cell (map plain_gate l) c.in_ok-drawn.drawn.items (device_rules r) a.unit_pm x number (plain_or_none c.in_ok-circuit.circuit)) names
    (subst (λ (m : List Bool). IsMadeOr (plain d) (nets_at a.nets.now) (pins_of a.pins.now) read c.deref-2.result.now cell (map plain_gate l) m (device_rules r) a.unit_pm c.deref-9.result.now number (plain_or_none c.in_ok-circuit.circuit)) c.deref-8.ensures.value
    c.in_ok-circuit.ensures) in
    let right = cell_right at l number v c.of-2.ensures numbered c.in_ok-drawn.ensures made in
    subst (λ (z : CircuitJobs). IsCellCircuit z.unit (plain z.design) (rules_seen z.rules) (upward_cell z.design c.args.job) v) c.self.view_is
    (subst (λ e. IsCellCircuit a.unit_pm (plain d) r e v) (ap (λ (x : List ℕ). get_or x c.args.job 0) c.order.ensures) right)
