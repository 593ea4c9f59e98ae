-- Tables that are right each by itself are right together, with a circuit for each cell that has one.
use Rattle.std.proofs.Common.{◌≡◌, ◌<◌, ◌^◌, ℕ, List, Bool, ◌∷◌, [], inl, Option, None, Some, IsSome, length, map, slice_get, slice_index, refl, sym, ◌∙◌, ap, subst}
use Rattle.std.proofs.lemmas.Option.{slice_get-get_or, slice_get_within}
use Rattle.cell_graph.proofs.Bridge.{heights}
use Rattle.cell_graph.proofs.Ordered.{levels, order}
use Rattle.cell_graph.specs.Linked.{IsSound, Linked, height_at, plain}
use Rattle.deep_tables.proofs.Circuiting.{not_before}
use Rattle.deep_tables.proofs.Finding.{upward}
use Rattle.deep_tables.proofs.Reading.{beside, some_and}
use Rattle.deep_tables.proofs.Together.{all_tables, right_gates, right_nets, right_pins}
use Rattle.deep_tables.specs.Circuits.{AreAllTables, AreCircuits, IsCellCircuit, IsNetlistIn, circuit_tables, plain_or_none, value_in, value_of}
use Rattle.deep_tables.specs.Entries.{IsUpward, entry, upward_cell}
use Rattle.deep_tables.specs.Gates.{AreGates, AreRightGates, gates_of}
use Rattle.deep_tables.specs.Laws.{AreJobs}
use Rattle.deep_tables.specs.Layers.{AreLayers}
use Rattle.deep_tables.specs.Nets.{AreNets, AreRightNets, own_of, tables_of}
use Rattle.deep_tables.specs.Pins.{ArePins, AreRightPins, pins_of}
use Rattle.deep_tables.specs.declared.circuits.CellCircuit.{CellCircuit}
use Rattle.deep_tables.specs.declared.gates.CellGates.{CellGates}
use Rattle.deep_tables.specs.declared.layers.CellLayers.{CellLayers}
use Rattle.deep_tables.specs.declared.nets.CellNets.{CellNets}
use Rattle.deep_tables.specs.declared.pins.CellPins.{CellPins}
use Rattle.flat_layout.specs.Circuits.{AreCircuitCells, AreDrawn, CircuitParts, IsCircuitCell}
use Rattle.flat_layout.specs.Expanded.{AreTablesRight}
use Rattle.flat_layout.specs.Layout.{IsReached}
use Rattle.flat_layout.specs.Nets.{Tables}
use Rattle.flat_layout.specs.Order.{IsCellBefore, IsOrder}
use Rattle.flat_layout.specs.Values.{IsCellCircuitOf, IsCircuitOr}
use Rattle.net_model.specs.Rows.{plain_circuit}
use Rattle.net_model.specs.declared.netlist.Circuit.{Circuit}
use Rattle.plain_netlist.proofs.Listing.{one_rising}
use Rattle.plain_netlist.proofs.Members.{listed}
use Rattle.plain_netlist.specs.Lists.{IsListed}
use Rattle.plain_netlist.specs.Netlist as netlist
use Rattle.plain_netlist.specs.Normal.{IsNormalNetlist}
use Rattle.plain_netlist.specs.Sound.{IsSoundNetlist}
use Rattle.rule_layers.specs.Meaning.{device_rules, wiring_of}
use Rattle.rule_text.specs.Rules.{Rules}
use Rattle.table_laws.proofs.Drawing.{drawn_together}
use Rattle.table_laws.proofs.Sound.{extracted_good, extracted_sound}
use Rattle.table_laws.proofs.Tabled.{reached_under}
use Rattle.circuit_phase.specs.Phase.{HasOwn}
use Rattle.deep_flow.specs.declared.gates.Gated.{Gated}
use Rattle.deep_flow.specs.Extracted.{HaveFewNets, IsNetlistOfCells}
use Rattle.deep_flow.proofs.Moved.{kept, kept_listed, listed_kept, moved, netlist_in, rising_kept, value_here}
use Rattle.deep_flow.proofs.Tabled.{table_there}

-- right layers and nets give the squares that cells hold themselves, and right nets over them
pub has_own : (d : Linked) (r : Rules) (layers : List (Option CellLayers)) (nets : List (Option CellNets)) → AreLayers (plain d) r layers → AreNets (plain d) r nets → HasOwn (plain d) (wiring_of r)
has_own d r layers nets a b = (own_of r layers, (right_nets (plain d) r layers nets a b).own)

pub has_nets : (d : Linked) (r : Rules) (layers : List (Option CellLayers)) (nets : List (Option CellNets)) → AreLayers (plain d) r layers → AreNets (plain d) r nets → (t : Tables) × AreRightNets (plain d) (wiring_of r) t
has_nets d r layers nets a b = (tables_of r layers nets, right_nets (plain d) r layers nets a b)

-- the tables, and the cells with circuits
pub record Filled : Type 0 where
  pub layers : List (Option CellLayers)
  pub nets : List (Option CellNets)
  pub gates : List (Option CellGates)
  pub pins : List (Option CellPins)
  pub circuits : List (Option CellCircuit)
  pub cells : List ℕ

pub record AreFilled (unit : ℕ) (d : Linked) (r : Rules) (f : Filled) : Type 0 where
  pub sound : IsSound d
  pub all : AreAllTables unit (plain d) r f.layers f.nets f.gates f.pins f.circuits
  pub cells_are : AreCircuitCells (plain d) (height_at d) (gates_of f.gates) f.cells

pub filled : (unit : ℕ) (d : Linked) (r : Rules) (a : Gated) (pins : List (Option CellPins)) (circuits : List (Option CellCircuit)) (cells : List ℕ) → IsSound d → AreLayers (plain d) r a.layers → AreNets (plain d) r a.nets
    → AreGates (plain d) r a.gates → ArePins (plain d) r pins → AreCircuits unit (plain d) r circuits → ((level : ℕ → ℕ) → IsOrder (plain d) level d.order → AreCircuitCells (plain d) level (gates_of a.gates) cells)
    → AreFilled unit d r (record { layers = a.layers; nets = a.nets; gates = a.gates; pins = pins; circuits = circuits; cells = cells })
filled unit d r a pins circuits cells sound layers nets gates are_pins are_circuits are_cells = record {
  sound = sound;
  all = record { are_layers = layers; are_nets = nets; are_gates = gates; are_pins = are_pins; are_circuits = are_circuits };
  cells_are = are_cells (height_at d) (order d sound);
}

-- the cells are reached, and among them is the top
reached_at : (unit : ℕ) (d : Linked) (r : Rules) (f : Filled) → AreFilled unit d r f → (k cell : ℕ) → IsCircuitCell f.cells k cell → IsReached (plain d) cell
reached_at unit d r f h k cell at = ((h.cells_are.each cell).0 (listed f.cells k cell at)).0

pub top_listed : {unit : ℕ} {d : Linked} {r : Rules} {f : Filled} → AreFilled unit d r f → (lent : List ℕ) (top : ℕ) → lent ≡ f.cells → top ≡ d.top → IsListed top lent
top_listed {unit} {d} {r} {f} h lent top same is =
    subst (λ (l : List ℕ). IsListed top l) (sym same)
    (subst (λ (x : ℕ). IsListed x f.cells) (sym is) ((h.cells_are.each d.top).1 (record { path = []; leads = refl }, inl refl)))

-- a reached cell has the circuit of its number, or none
-- (the wheres down to by_itself are those of deep_tables' all_tables)
circuit_or : (unit : ℕ) (d : Linked) (r : Rules) (f : Filled) → AreFilled unit d r f → (cell : ℕ) → IsReached (plain d) cell
    → IsCircuitOr (plain d) (tables_of r f.layers f.nets) (gates_of f.gates) (pins_of f.pins) (λ e. (value_of f.circuits e).drawn) (device_rules r) unit f.cells cell (value_of f.circuits cell).circuit
circuit_or unit d r f h cell reached =
    (by_itself cell reached).is_circuit drawn (λ j e p placed under. drawn_right e (reached_under (plain d) cell e reached (j ∷ under.0, (p, placed, under.1)))) refl
  where
    t : Tables
    t = tables_of r f.layers f.nets

    right : AreRightNets (plain d) (wiring_of r) t
    right = right_nets (plain d) r f.layers f.nets h.all.are_layers h.all.are_nets

    rows : AreRightGates (plain d) (wiring_of r) t (device_rules r) (gates_of f.gates)
    rows = right_gates (plain d) r t f.gates right h.all.are_gates

    used : AreRightPins (plain d) (wiring_of r) t (gates_of f.gates) (pins_of f.pins)
    used = right_pins d r t (gates_of f.gates) f.pins h.sound right rows h.all.are_pins

    by_itself : (e : ℕ) → IsReached (plain d) e → IsCellCircuitOf (plain d) t (gates_of f.gates) (pins_of f.pins) (device_rules r) unit f.cells e (value_of f.circuits e)
    by_itself e there =
        let v = some_and (IsCellCircuit unit (plain d) r e) (entry f.circuits e) (h.all.are_circuits e there) in
        subst (λ o. IsCellCircuitOf (plain d) t (gates_of f.gates) (pins_of f.pins) (device_rules r) unit f.cells e (value_in o)) (sym v.1)
        (v.2 t (gates_of f.gates) (pins_of f.pins) (height_at d) f.cells (record { nets = right; gates_right = rows; pins_right = used; levels = levels d h.sound; cells_right = h.cells_are }))

    drawn : ℕ → List Bool
    drawn e = (value_of f.circuits e).drawn

    drawn_right : (e : ℕ) → IsReached (plain d) e → AreDrawn (plain d) t (gates_of f.gates) (pins_of f.pins) drawn e (drawn e)
    drawn_right e there = drawn_together (plain d) t (gates_of f.gates) (pins_of f.pins) drawn (height_at d) (heights d h.sound) (λ x more. (by_itself x more).are_drawn) e there

-- it has one where it is among the cells
has_circuit : {unit : ℕ} {d : Linked} {r : Rules} {f : Filled} → AreFilled unit d r f → (cell : ℕ) → IsReached (plain d) cell → IsListed cell f.cells → IsSome (value_of f.circuits cell).circuit
has_circuit {unit} {d} {r} {f} h cell reached there = some (value_of f.circuits cell).circuit (circuit_or unit d r f h cell reached)
  where
    some : (o : Option netlist.Circuit)
        → IsCircuitOr (plain d) (tables_of r f.layers f.nets) (gates_of f.gates) (pins_of f.pins) (λ e. (value_of f.circuits e).drawn) (device_rules r) unit f.cells cell o → IsSome o
    some None none = absurd (none there)
    some (Some c) is = refl

-- and nowhere else
is_listed : {unit : ℕ} {d : Linked} {r : Rules} {f : Filled} → AreFilled unit d r f → (cell : ℕ) → IsReached (plain d) cell → IsSome (value_of f.circuits cell).circuit → IsListed cell f.cells
is_listed {unit} {d} {r} {f} h cell reached there = among (value_of f.circuits cell).circuit (circuit_or unit d r f h cell reached) there
  where
    among : (o : Option netlist.Circuit)
        → IsCircuitOr (plain d) (tables_of r f.layers f.nets) (gates_of f.gates) (pins_of f.pins) (λ e. (value_of f.circuits e).drawn) (device_rules r) unit f.cells cell o → IsSome o → IsListed cell f.cells
    among None none one = absurd (let z : ⊥ = cc in z)
    among (Some c) is one = listed f.cells is.0 cell is.1

-- the values of the jobs, with the table that has them
pub record AreMoved (d : Linked) (f : Filled) (values : List CellCircuit) : Type 0 where
  pub count : length values ≡ length d.order
  pub by : IsUpward d values f.circuits

pub tabled : (unit : ℕ) (d : Linked) (r : Rules) (values : List CellCircuit) → IsSound d → AreJobs (upward_cell d) d (IsCellCircuit unit (plain d) r) values
    → (table : List (Option CellCircuit)) × IsUpward d values table × AreCircuits unit (plain d) r table
tabled unit d r values sound jobs = let t = table_there d values sound.order in (t.0, t.1, upward (IsCellCircuit unit) d r values t.0 sound t.1 jobs)

module _ {unit : ℕ} {d : Linked} {r : Rules} {f : Filled} (h : AreFilled unit d r f) (values : List CellCircuit) (m : AreMoved d f values) where
  -- the table has a job's value at the job's cell
  holds : (k cell : ℕ) (v : CellCircuit) → slice_get d.order k ≡ Some cell → slice_get values k ≡ Some v → entry f.circuits cell ≡ Some v
  holds k cell v at is =
      let lt = slice_get_within d.order k cell at in
      let same : slice_index d.order k ≡ cell = (let e : Some (slice_index d.order k) ≡ Some cell = sym (slice_get-get_or d.order k 0 lt) ∙ at in cc) in
      subst (λ (x : ℕ). entry f.circuits x ≡ Some v) same (m.by.each k lt ∙ is)

  -- each reached cell has its job
  job_of : (cell : ℕ) → IsReached (plain d) cell → (k : ℕ) × (v : CellCircuit) × (slice_get d.order k ≡ Some cell) × (slice_get values k ≡ Some v)
  job_of cell reached =
      let a = h.sound.order.all cell reached in
      let at : slice_get d.order a.0 ≡ Some cell = slice_get-get_or d.order a.0 0 a.1 ∙ ap (λ (x : ℕ). Some x) a.2 in
      let v = beside d.order values a.0 cell at m.count in
      (a.0, v.0, at, v.1)

  -- the cells whose values have circuits are the cells with circuits
  kept_cells : kept d.order values ≡ f.cells
  kept_cells = one_rising (IsCellBefore (height_at d)) (not_before (height_at d)) (kept d.order values) f.cells
      (rising_kept (IsCellBefore (height_at d)) d.order values (order d h.sound).rising) h.cells_are.rising to from
    where
      to : (cell : ℕ) → IsListed cell (kept d.order values) → IsListed cell f.cells
      to cell l =
          let k = listed_kept d.order values cell l in
          let reached = (((order d h.sound).each cell).0 (listed d.order k.job cell k.cell_at)).0 in
          is_listed h cell reached (subst (λ (o : Option netlist.Circuit). IsSome o) (sym (value_here f.circuits cell k.value k.circuit (holds k.job cell k.value k.cell_at k.value_at) k.has)) refl)

      some_back : (o : Option Circuit) → IsSome (plain_or_none o) → IsSome o
      some_back None some = some
      some_back (Some c) some = refl

      from : (cell : ℕ) → IsListed cell f.cells → IsListed cell (kept d.order values)
      from cell l =
          let reached = ((h.cells_are.each cell).0 l).0 in
          let j = job_of cell reached in
          let some = subst (λ (o : Option CellCircuit). IsSome (value_in o).circuit) (holds j.0 cell j.1 j.2 j.3) (has_circuit h cell reached l) in
          kept_listed d.order values cell j.0 j.1 j.2 j.3 (some_back j.1.circuit some)

  pub are_netlist : (out : List Circuit) → out ≡ moved values → IsNetlistIn f.circuits f.cells (let nl : netlist.Netlist = record { circuits = map plain_circuit out } in nl)
  are_netlist out is =
      subst (λ (l : List ℕ). IsNetlistIn f.circuits l (let nl : netlist.Netlist = record { circuits = map plain_circuit out } in nl)) kept_cells
      (netlist_in f.circuits d.order values out (sym m.count) holds is)

  pub few_there : HaveFewNets values → (k cell : ℕ) → IsCircuitCell f.cells k cell → length (value_of f.circuits cell).drawn < 2 ^ 32
  few_there few k cell at =
      let j = job_of cell (reached_at unit d r f h k cell at) in
      subst (λ (o : Option CellCircuit). length (value_in o).drawn < 2 ^ 32) (sym (holds j.0 cell j.1 j.2 j.3)) (few j.0 j.1 j.3)

-- the circuits of these cells are the layout's netlist
together : (unit : ℕ) (d : Linked) (r : Rules) (f : Filled) → AreFilled unit d r f → (nl : netlist.Netlist) → IsNetlistIn f.circuits f.cells nl
    → (parts : ℕ → CircuitParts) × AreTablesRight (plain d) (wiring_of r) (tables_of r f.layers f.nets) (circuit_tables f.gates f.pins f.circuits f.cells parts) nl (device_rules r) unit (height_at d)
together unit d r f h nl are = all_tables unit d r f.layers f.nets f.gates f.pins f.circuits (height_at d) f.cells nl h.sound (levels d h.sound) h.all h.cells_are are

pub is_netlist : {unit : ℕ} {d : Linked} {r : Rules} {f : Filled} → AreFilled unit d r f → (nl : netlist.Netlist) → IsNetlistIn f.circuits f.cells nl → (place top : ℕ) → IsCircuitCell f.cells place top → top ≡ d.top
    → IsNetlistOfCells unit d r f.layers f.nets f.gates f.pins nl place
is_netlist {unit} {d} {r} {f} h nl are place top at is =
    let right = together unit d r f h nl are in
    record {
      tables = circuit_tables f.gates f.pins f.circuits f.cells right.0;
      gates_are = refl;
      pins_are = refl;
      right = right.1;
      top_is = subst (λ (x : ℕ). IsCircuitCell f.cells place x) is at;
    }

pub is_sound : {unit : ℕ} {d : Linked} {r : Rules} {f : Filled} → AreFilled unit d r f → (nl : netlist.Netlist) → IsNetlistIn f.circuits f.cells nl → length f.cells < 2 ^ 32
    → ((k cell : ℕ) → IsCircuitCell f.cells k cell → length (value_of f.circuits cell).drawn < 2 ^ 32) → IsSoundNetlist nl
is_sound {unit} {d} {r} {f} h nl are few short =
    let right = together unit d r f h nl are in
    extracted_sound (plain d) (wiring_of r) (tables_of r f.layers f.nets) (circuit_tables f.gates f.pins f.circuits f.cells right.0) nl (device_rules r) unit (height_at d) right.1 few short

pub is_normal : {unit : ℕ} {d : Linked} {r : Rules} {f : Filled} → AreFilled unit d r f → (nl : netlist.Netlist) → IsNetlistIn f.circuits f.cells nl → IsNormalNetlist nl
is_normal {unit} {d} {r} {f} h nl are =
    let right = together unit d r f h nl are in
    (extracted_good (plain d) (wiring_of r) (tables_of r f.layers f.nets) (circuit_tables f.gates f.pins f.circuits f.cells right.0) nl (device_rules r) unit (height_at d) right.1).1
