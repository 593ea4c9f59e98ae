-- What a job reads is right, and so is what it makes.
use Rattle.std.proofs.Common.{◌≡◌, inr, ℕ, zero, suc, ◌<◌, Bool, List, [], ◌∷◌, ◌++◌, Option, Some, None, IsSomeAnd, map, slice_get, slice_index, get_or, length, refl, sym, ◌∙◌, ap, subst, arith}
use Rattle.base_laws.proofs.Items.{map_to}
use Rattle.std.proofs.lemmas.List.{length-map}
use Rattle.std.proofs.lemmas.Option.{slice_get_within}
use Rattle.cell_graph.proofs.Bridge.{heights}
use Rattle.cell_graph.specs.Linked.{IsSound, Linked, height_at, plain}
use Rattle.deep_tables.proofs.Circuiting.{circuits_over_any}
use Rattle.deep_tables.proofs.Reading.{some_and}
use Rattle.deep_tables.proofs.Together.{right_gates, right_pins}
use Rattle.deep_tables.specs.Circuits.{IsCellCircuit, drawn_of, plain_or_none, plain_value}
use Rattle.deep_tables.specs.Entries.{entry, upward_cell}
use Rattle.deep_tables.specs.Gates.{AreGates, AreRightGates, gates_of, list_of, plain_gate}
use Rattle.deep_tables.specs.Nets.{AreCellNets, AreNets, AreRightNets, nets_in, plain_nets}
use Rattle.deep_tables.specs.Pins.{AreCellPins, ArePins, AreRightPins, name_in, pins_in, pins_of}
use Rattle.deep_tables.specs.Positions.{ArePositions}
use Rattle.deep_tables.specs.declared.circuits.CellCircuit.{CellCircuit}
use Rattle.deep_tables.specs.declared.gates.CellGates.{CellGates}
use Rattle.deep_tables.specs.declared.gates.Gate.{Gate}
use Rattle.deep_tables.specs.declared.nets.CellNets.{CellNets}
use Rattle.deep_tables.specs.declared.pins.CellPins.{CellPins}
use Rattle.flat_laws.proofs.Cover.{reached_below}
use Rattle.flat_laws.proofs.Planned.{lower}
use Rattle.flat_layout.specs.Circuits.{AreCircuitCells, AreDrawn, IsDrawn, cell_circuit_names}
use Rattle.flat_layout.specs.GateTables.{GateEntry}
use Rattle.flat_layout.specs.GateTables as flat_gates
use Rattle.flat_layout.specs.Layout.{Place, IsPlaced, IsReached}
use Rattle.flat_layout.specs.Nets.{IsNetsOf, IsUnder, Tables}
use Rattle.flat_layout.specs.Nets as flat
use Rattle.flat_layout.specs.Order.{AreLevels}
use Rattle.flat_layout.specs.Pins.{HasGate}
use Rattle.flat_layout.specs.Values.{AreDrawnBelow, AreDrawnOf, IsCircuitOr}
use Rattle.geo_base.specs.declared.shapes.Rect.{Rect}
use Rattle.job_graph.specs.Graph.{Waits}
use Rattle.net_phase.specs.Graph.{AreBelowJobs}
use Rattle.plain_netlist.proofs.Members.{listed}
use Rattle.plain_netlist.specs.Lists.{IsListed}
use Rattle.plain_netlist.specs.Netlist.{Circuit}
use Rattle.rule_layers.specs.Meaning.{device_rules, wiring_of}
use Rattle.rule_text.specs.Rules.{Rules}
use Rattle.table_laws.proofs.Drawing.{read_drawn}
use Rattle.table_laws.proofs.Tabled.{leads_both, reached_under}
use Rattle.table_laws.proofs.Tabled as tabled
use Rattle.circuit_phase.specs.Below.{IsReadable, drawn_by, drawn_or_none, nets_by}
use Rattle.circuit_phase.specs.Made.{IsMadeOr}
use Rattle.circuit_phase.specs.Phase.{CircuitJobs, HasOwn, HasSources, IsCircuitPhase, jobs_seen, nets_at}
use Rattle.circuit_phase.specs.declared.phase.CircuitPhase.TheInside.{Inside}
use Rattle.rule_text.specs.Seen.{rules_seen}
use Rattle.circuit_phase.specs.Placed.{AreNetsOver, IsNumberOf, tables_with}
use Rattle.circuit_phase.proofs.Completing.{completed, drawn_over, gate_below}
use Rattle.circuit_phase.proofs.Gating.{gates_read}
use Rattle.net_marks.proofs.Grounding.{terminals}
use Rattle.circuit_phase.proofs.Numbers.{within}

-- all that circuits are made from

pub sources : (d : Linked) (r : Rules) (nets : List (Option CellNets)) (gates : List (Option CellGates)) (pins : List (Option CellPins)) (circuits : List ℕ) → IsSound d → AreLevels (plain d) (height_at d) → HasOwn (plain d) (wiring_of r) → AreNets (plain d) r nets → AreGates (plain d) r gates → ArePins (plain d) r pins
    → AreCircuitCells (plain d) (height_at d) (gates_of gates) circuits → HasSources d r nets gates pins circuits
sources d r nets gates pins circuits sound level own are_nets are_gates are_pins cells = (own.0, record { nets = right; gates_right = rows; pins_right = used; levels = level; cells_right = cells })
  where
    t : Tables
    t = tables_with own.0 (nets_at nets)

    right : AreRightNets (plain d) (wiring_of r) t
    right = record {
      own = own.1;
      nets = λ cell reached.
          let v = some_and (AreCellNets (plain d) r cell) (entry nets cell) (are_nets cell reached) in
          subst (λ o. IsNetsOf (plain d) (wiring_of r) cell (nets_in o)) (sym v.1) v.2;
    }

    rows : AreRightGates (plain d) (wiring_of r) t (device_rules r) (gates_of gates)
    rows = right_gates (plain d) r t gates right are_gates

    used : AreRightPins (plain d) (wiring_of r) t (gates_of gates) (pins_of pins)
    used = right_pins d r t (gates_of gates) pins sound right rows are_pins

-- what is known where a job is worked
pub record IsAtWork (d : Linked) (r : Rules) (unit : ℕ) (nets : List (Option CellNets)) (gates : List (Option CellGates)) (pins : List (Option CellPins)) (circuits numbers jobs : List ℕ) (graph : List (List ℕ)) (job cell : ℕ) (may : ℕ → Type 0) (value : ℕ → Option CellCircuit) : Type 0 where
  pub sound : IsSound d
  pub job_in : job < length d.order
  pub is : cell ≡ slice_index d.order job
  pub below : AreBelowJobs d graph
  pub job_count : length jobs ≡ length d.cells
  pub job_places : ArePositions d.order (length d.order) jobs
  pub number_count : length numbers ≡ length d.cells
  pub positions : ArePositions circuits (length circuits) numbers
  pub are_pins : ArePins (plain d) r pins
  pub sources : HasSources d r nets gates pins circuits
  pub inputs : (i : ℕ) → Waits graph job i → may i
  pub right : (i : ℕ) → Waits graph job i → IsSomeAnd (value i) (IsCellCircuit unit (plain d) r (upward_cell d i))

module _ {d : Linked} {r : Rules} {unit : ℕ} {nets : List (Option CellNets)} {gates : List (Option CellGates)} {pins : List (Option CellPins)} {circuits numbers jobs : List ℕ} {graph : List (List ℕ)} {job cell : ℕ} {may : ℕ → Type 0} {value : ℕ → Option CellCircuit}
    (at : IsAtWork d r unit nets gates pins circuits numbers jobs graph job cell may value) where
  abbrev s : Tables
  s = tables_with at.sources.0 (nets_at nets)

  abbrev of : ℕ → List GateEntry
  of = gates_of gates

  abbrev read : ℕ → List Bool
  read = drawn_by value jobs

  pub reached : IsReached (plain d) cell
  reached = subst (λ c. IsReached (plain d) c) (sym at.is) (at.sound.order.reached job at.job_in)

  child_reached : (k : ℕ) (p : Place) → IsPlaced (plain d) cell k p → IsReached (plain d) p.cell
  child_reached k p placed = reached_below (plain d) cell k p reached placed

  -- the job of a cell below
  job_of : (e : ℕ) → IsReached (plain d) e → (get_or jobs e 0 < length d.order) × (slice_index d.order (get_or jobs e 0) ≡ e)
  job_of e there =
      let j = at.sound.order.all e there in
      let same : get_or jobs e 0 ≡ j.0 = ap (λ c. get_or jobs c 0) (sym j.2) ∙ at.job_places j.0 j.1 in
      (subst (λ n. n < length d.order) (sym same) j.1, ap (slice_index d.order) same ∙ j.2)

  waits : (k e : ℕ) (p : Place) → IsPlaced (plain d) cell k p → IsUnder (plain d) p.cell e → Waits graph job (get_or jobs e 0)
  waits k e p placed under =
      let j = job_of e (reached_under (plain d) p.cell e (child_reached k p placed) under) in
      (at.below.waits job (get_or jobs e 0) at.job_in).1
      (j.0, (k, p, subst (λ c. IsPlaced (plain d) c k p) at.is placed, subst (λ c. IsUnder (plain d) p.cell c) (sym j.1) under))

  is_read : (k e : ℕ) (p : Place) → IsPlaced (plain d) cell k p → IsUnder (plain d) p.cell e → IsSomeAnd (value (get_or jobs e 0)) (IsCellCircuit unit (plain d) r e)
  is_read k e p placed under =
      let j = job_of e (reached_under (plain d) p.cell e (child_reached k p placed) under) in
      subst (λ c. IsSomeAnd (value (get_or jobs e 0)) (IsCellCircuit unit (plain d) r c)) j.1 (at.right (get_or jobs e 0) (waits k e p placed under))

  of_read : (e : ℕ) → IsSomeAnd (value (get_or jobs e 0)) (IsCellCircuit unit (plain d) r e) → AreDrawnOf (plain d) s of (pins_of pins) e (read e)
  of_read e h =
      let v = some_and (IsCellCircuit unit (plain d) r e) (value (get_or jobs e 0)) h in
      subst (λ o. AreDrawnOf (plain d) s of (pins_of pins) e (drawn_or_none (drawn_of o))) (sym v.1) (v.2 s of (pins_of pins) (height_at d) circuits at.sources.1).are_drawn

  -- all below the cell is read, and so right together
  read_right : (n k e : ℕ) (p : Place) → IsPlaced (plain d) cell k p → height_at d e < n → IsUnder (plain d) p.cell e → AreDrawn (plain d) s of (pins_of pins) read e (read e)
  read_right zero k e p placed lt under = absurd (let z : ⊥ = omega (arith, lt) in z)
  read_right (suc n) k e p placed lt under = of_read e (is_read k e p placed under) read (λ j f q there more.
      let less = heights d at.sound e j q there in
      let low = lower (plain d) (height_at d) (heights d at.sound) more.0 q.cell f more.1 in
      read_right n k f p placed (omega (arith, less, low, lt)) (under.0 ++ j ∷ more.0, leads_both (plain d) p.cell e f under.0 (j ∷ more.0) under.1 (q, there, more.1)))

  child_right : (k : ℕ) (p : Place) → IsPlaced (plain d) cell k p → AreDrawn (plain d) s of (pins_of pins) read p.cell (read p.cell)
  child_right k p placed = read_right (suc (height_at d p.cell)) k p.cell p placed (omega arith) ([], refl)

  pub readable : (k : ℕ) (p : Place) → IsPlaced (plain d) cell k p → IsReadable may value jobs numbers circuits nets pins p.cell
  readable k p placed =
      let there = child_reached k p placed in
      let low = within d p.cell at.sound there in
      let long = at.job_count in
      let size = at.number_count in
      let v = some_and (IsCellCircuit unit (plain d) r p.cell) (value (get_or jobs p.cell 0)) (is_read k p.cell p placed ([], refl)) in
      let u = some_and (AreCellPins (plain d) r p.cell) (entry pins p.cell) (at.are_pins p.cell there) in
      let drawn_count : length (drawn_or_none (drawn_of (value (get_or jobs p.cell 0)))) ≡ nets_by nets p.cell = (child_right k p placed).count in
      let pin_count : length (pins_in (entry pins p.cell)).pins ≡ nets_by nets p.cell = (at.sources.1.pins_right p.cell there).count in
      record {
        job_in = omega (arith, low, long);
        job = at.inputs (get_or jobs p.cell 0) (waits k p.cell p placed ([], refl));
        value_there = subst (λ o. IsSomeAnd o (λ w. length w.drawn.items ≡ nets_by nets p.cell)) (sym v.1) (subst (λ o. length (drawn_or_none (drawn_of o)) ≡ nets_by nets p.cell) v.1 drawn_count);
        pins_there = subst (λ o. IsSomeAnd o (λ w. length w.pin.items ≡ nets_by nets p.cell)) (sym u.1) (subst (λ o. length (pins_in o).pins ≡ nets_by nets p.cell) u.1 pin_count);
        number_in = omega (arith, low, size);
        positions = at.positions;
      }

  nets_right : flat.AreNets (plain d) (wiring_of r) s cell (s.nets cell)
  nets_right = (tabled.tables (plain d) (wiring_of r) s (height_at d) (heights d at.sound) at.sources.1.nets.own at.sources.1.nets.nets).0.nets cell reached

  pub nets_over : (v : CellNets) → entry nets cell ≡ Some v → AreNetsOver (plain d) (wiring_of r) (nets_at nets) cell (plain_nets v)
  nets_over v e = (at.sources.0, subst (λ o. flat.AreNets (plain d) (wiring_of r) s cell (nets_in o)) e nets_right)

  pub under_count : (v : CellNets) (l : List Gate) → entry nets cell ≡ Some v → list_of (entry gates cell) ≡ Some l → (x : ℕ) → HasGate (λ c. map plain_gate l) cell x → x < v.count
  under_count v l e f x has =
      let rows : flat_gates.AreGates (plain d) (wiring_of r) s (device_rules r) cell (map plain_gate l) = subst (λ m. flat_gates.AreGates (plain d) (wiring_of r) s (device_rules r) cell m) (gates_read gates cell l f) (at.sources.1.gates_right cell reached) in
      let lt = terminals (plain d) (wiring_of r) s (device_rules r) (λ c. map plain_gate l) cell x nets_right rows has in
      subst (λ o. x < (nets_in o).count) e lt

  pub rules_in : (l : List Gate) → list_of (entry gates cell) ≡ Some l → (i : ℕ) (gate : Gate) → slice_get l i ≡ Some gate → gate.device < length (device_rules r)
  rules_in l f i gate there =
      let rows : flat_gates.AreGates (plain d) (wiring_of r) s (device_rules r) cell (map plain_gate l) = subst (λ m. flat_gates.AreGates (plain d) (wiring_of r) s (device_rules r) cell m) (gates_read gates cell l f) (at.sources.1.gates_right cell reached) in
      let row = rows.each (plain_gate gate) (listed (map plain_gate l) i (plain_gate gate) (map_to plain_gate l i gate there)) in
      slice_get_within (device_rules r) gate.device row.rule row.is

  pub pin_counts : (v : CellNets) (u : CellPins) → entry nets cell ≡ Some v → entry pins cell ≡ Some u → (length u.pin.items ≡ v.count) × (length u.names.items ≡ v.count)
  pin_counts v u e f =
      let p = at.sources.1.pins_right cell reached in
      let one : length (pins_in (entry pins cell)).pins ≡ (nets_in (entry nets cell)).count = p.count in
      let two : length (pins_in (entry pins cell)).names ≡ (nets_in (entry nets cell)).count = p.named in
      let long = length-map u.names.items name_in in (
        subst (λ o. length u.pin.items ≡ (nets_in o).count) e (subst (λ o. length (pins_in o).pins ≡ (nets_in (entry nets cell)).count) f one),
        sym long ∙ subst (λ o. length (map name_in u.names.items) ≡ (nets_in o).count) e (subst (λ o. length (pins_in o).names ≡ (nets_in (entry nets cell)).count) f two),
      )

  -- what is made is right over all sources
  pub cell_right : (l : List Gate) (number : Option ℕ) (v : CellCircuit) → list_of (entry gates cell) ≡ Some l → IsNumberOf circuits cell number
      → ((own : ℕ → ℕ → List Rect) → AreDrawn (plain d) (tables_with own (nets_at nets)) (λ c. map plain_gate l) (pins_of pins) read cell v.drawn.items)
      → IsMadeOr (plain d) (nets_at nets) (pins_of pins) read circuits cell (map plain_gate l) v.drawn.items (device_rules r) unit (cell_circuit_names (plain d) circuits) number (plain_or_none v.circuit) → IsCellCircuit unit (plain d) r cell v
  cell_right l number v f numbered marks made t others other_pins level cells from =
      circuits_over_any d r unit s of (pins_of pins) (height_at d) circuits cell (plain_value v) at.sound at.sources.1 reached (record {
        are_drawn = λ drawn below. over drawn below;
        is_circuit = λ drawn below here. chosen number (plain_or_none v.circuit) drawn below here numbered made;
      }) t others other_pins level cells from
    where
      is : of cell ≡ map plain_gate l
      is = gates_read gates cell l f

      same : (drawn : ℕ → List Bool) → AreDrawnBelow (plain d) s of (pins_of pins) drawn cell → (k : ℕ) (p : Place) → IsPlaced (plain d) cell k p → read p.cell ≡ drawn p.cell
      same drawn below k p placed = read_drawn (plain d) s of (pins_of pins) drawn cell k p (read p.cell) below placed (of_read p.cell (is_read k p.cell p placed ([], refl)))

      over : (drawn : ℕ → List Bool) → AreDrawnBelow (plain d) s of (pins_of pins) drawn cell → AreDrawn (plain d) s of (pins_of pins) drawn cell v.drawn.items
      over drawn below = drawn_over (plain d) s (map plain_gate l) of (pins_of pins) read drawn cell v.drawn.items is (same drawn below) (marks at.sources.0)

      known : (drawn : ℕ → List Bool) → AreDrawnBelow (plain d) s of (pins_of pins) drawn cell → (k b : ℕ) (p : Place) → IsPlaced (plain d) cell k p → IsDrawn drawn p.cell b → IsListed p.cell circuits
      known drawn below k b p placed told =
          let lt : height_at d p.cell < suc (height_at d p.cell) = omega arith in
          let g = gate_below (plain d) s of (pins_of pins) drawn (height_at d) (heights d at.sound) (suc (height_at d p.cell)) p.cell lt (λ e under. below k e p placed under) b told in
          (at.sources.1.cells_right.each p.cell).1 (child_reached k p placed, inr g)

      chosen : (number : Option ℕ) (c : Option Circuit) (drawn : ℕ → List Bool) → AreDrawnBelow (plain d) s of (pins_of pins) drawn cell → drawn cell ≡ v.drawn.items → IsNumberOf circuits cell number
          → IsMadeOr (plain d) (nets_at nets) (pins_of pins) read circuits cell (map plain_gate l) v.drawn.items (device_rules r) unit (cell_circuit_names (plain d) circuits) number c → IsCircuitOr (plain d) s of (pins_of pins) drawn (device_rules r) unit circuits cell c
      chosen None None drawn below here n h = n
      chosen None (Some c) drawn below here n h = absurd h
      chosen (Some n) None drawn below here m h = absurd h
      chosen (Some n) (Some c) drawn below here m h =
          let done = completed (plain d) (wiring_of r) (nets_at nets) at.sources.0 of (pins_of pins) read drawn circuits cell (map plain_gate l) v.drawn.items (device_rules r) unit c h.1 is here (same drawn below) nets_right (over drawn below) (known drawn below) n h.0 in
          (n, m, done.0, done.1)

pub at_work : {a : Inside} {z : CircuitJobs} {job cell : ℕ} {circuits numbers jobs : List ℕ} → IsCircuitPhase a → jobs_seen a ≡ z → IsSound a.design.now → job < length z.graph → cell ≡ slice_index a.design.now.order job
    → circuits ≡ a.circuits.cells.items → numbers ≡ a.circuits.numbers.items → jobs ≡ a.jobs.items → (may : ℕ → Type 0) (value : ℕ → Option CellCircuit) → ((i : ℕ) → Waits z.graph job i → may i)
    → ((i : ℕ) → Waits z.graph job i → IsSomeAnd (value i) (IsCellCircuit z.unit (plain z.design) (rules_seen z.rules) (upward_cell z.design i)))
    → IsAtWork a.design.now (rules_seen a.rules.now) a.unit_pm a.nets.now a.gates.now a.pins.now circuits numbers jobs a.graph job cell may value
at_work {a} {z} {job} {cell} {circuits} {numbers} {jobs} inv seen sound lt is c n j may value inputs right = record {
  sound = sound;
  job_in = subst (λ k. job < k) (ap (λ (x : CircuitJobs). length x.graph) (sym seen) ∙ inv.graph.jobs) lt;
  is = is;
  below = inv.graph;
  job_count = ap (λ (l : List ℕ). length l) j ∙ inv.job_count;
  job_places = subst (λ (l : List ℕ). ArePositions a.design.now.order (length a.design.now.order) l) (sym j) inv.jobs;
  number_count = ap (λ (l : List ℕ). length l) n ∙ inv.number_count;
  positions = subst (λ (l : List ℕ). ArePositions circuits (length circuits) l) (sym n) (subst (λ (l : List ℕ). ArePositions l (length l) a.circuits.numbers.items) (sym c) inv.numbers);
  are_pins = inv.pins;
  sources = subst (λ (l : List ℕ). HasSources a.design.now (rules_seen a.rules.now) a.nets.now a.gates.now a.pins.now l) (sym c) inv.sources;
  inputs = λ i h. inputs i (subst (λ (x : CircuitJobs). Waits x.graph job i) seen h);
  right = λ i h. subst (λ (x : CircuitJobs). IsSomeAnd (value i) (IsCellCircuit x.unit (plain x.design) (rules_seen x.rules) (upward_cell x.design i))) (sym seen) (right i (subst (λ (x : CircuitJobs). Waits x.graph job i) seen h));
}
