-- A layout has one netlist.
use Rattle.std.proofs.Common.{◌≡◌, ◌⊎◌, inl, inr, ℕ, zero, suc, ◌+◌, ◌<◌, pos, Bool, true, List, [], ◌∷◌, ◌++◌, Some, map, length, slice_get, refl, sym, ap, subst, ◌∙◌, arith}
use Rattle.base_laws.proofs.Items.{one_list}
use Rattle.cell_graph.specs.Laws.{LevelLaw, OrderLaw}
use Rattle.cell_graph.specs.Linked.{Linked, IsSound, height_at, plain}
use Rattle.deep_flow.specs.Bad.{told_bad}
use Rattle.deep_tables.specs.Gates.{gates_of}
use Rattle.deep_tables.specs.Nets.{AreRightNets, tables_of}
use Rattle.deep_tables.specs.declared.gates.BadGate.{BadGate}
use Rattle.deep_tables.proofs.Circuiting.{circuit_along, drawn_along, one_order}
use Rattle.deep_tables.proofs.Pinning.{AreAlike, alike_back, pins_alike}
use Rattle.deep_tables.proofs.Together.{right_nets}
use Rattle.cell_graph.proofs.Bridge.{heights}
use Rattle.flat_laws.proofs.Cover.{reached_below}
use Rattle.flat_laws.proofs.Planned.{cell_not_before, item_at}
use Rattle.flat_layout.specs.Circuits.{AreCircuitCells, AreCircuitNets, AreCircuitPins, AreDrawn, CircuitParts, IsCallOf, IsCircuitOf, IsDrawnBelow, pin_nets}
use Rattle.flat_layout.specs.Expanded.{AreTablesRight, CircuitTables}
use Rattle.flat_layout.specs.Gates.{Rule}
use Rattle.plain_netlist.specs.declared.kinds.DeviceKind.TheVariants.{Diode}
use Rattle.plain_netlist.specs.Devices.{NoEnds}
use Rattle.flat_layout.specs.GateTables.{GateEntry, GateRow, Good, GoodGate, all_bad_gates, bad_gates}
use Rattle.flat_layout.specs.GateTables as gate_tables
use Rattle.flat_layout.specs.Layout as flat
use Rattle.flat_layout.specs.Layout.{Design, IsPlaced, IsReached}
use Rattle.flat_layout.specs.Nets.{Tables}
use Rattle.flat_layout.specs.Order.{AreLevels, IsCellBefore, IsOrder}
use Rattle.flat_layout.specs.Pins.{CellPins, HasGate}
use Rattle.gds_layout.specs.declared.layout.Layout.{Layout}
use Rattle.gds_layout.proofs.SamePlain.{same_plain}
use Rattle.netlist_file.specs.File.{IsNetlistFile}
use Rattle.netlist_file.specs.One.{IsSameNetlist, OneNetlistLaw, OneOrderLaw}
use Rattle.plain_netlist.proofs.Listing.{apart_at, rising_apart}
use Rattle.plain_netlist.proofs.Members.{listed}
use Rattle.plain_netlist.specs.Lists.{IsListed}
use Rattle.plain_netlist.specs.Netlist.{CallRow, Circuit, Netlist}
use Rattle.rule_layers.specs.Meaning.{device_rules, wiring_of}
use Rattle.rule_text.specs.Rules.{Rules}
use Rattle.netlist_file.specs.Once.{OneTextLaw}
use Rattle.spice_text.specs.Written.{IsWritten}
use Rattle.table_laws.proofs.Circuited.{one_circuit}
use Rattle.table_laws.proofs.Drawing.{one_drawn}

-- ---- the design's order

-- as if each cell had a good gate, so that the cells with circuits are all that are reached
abbrev no_row : GateRow
no_row = record { kind = Diode; twice_w = 0; twice_l = 0; ends = NoEnds; others = [] }

abbrev some_gate : GoodGate
some_gate = record { at = record { rule = 0; square = record { x = pos 0; y = pos 0 } }; row = no_row }

abbrev everywhere : ℕ → List GateEntry
everywhere cell = record { at = some_gate.at; verdict = Good no_row } ∷ []

in_circuits : (d : Design) (level : ℕ → ℕ) (cells : List ℕ) → IsOrder d level cells → AreCircuitCells d level everywhere cells
in_circuits d level cells order = record {
  each = λ cell. (
    (λ i. let k = (order.each cell).0 i in (k.0, inr (cell, ([], refl), some_gate, inl refl))),
    (λ k. (order.each cell).1 (k.0, tt)),
  );
  rising = order.rising;
}

abbrev no_tables : Tables
no_tables = record { own = λ cell c. []; nets = λ cell. record { items = []; net_of = []; count = 0 } }

alike_self : (d : Design) → AreAlike d no_tables no_tables everywhere everywhere
alike_self d = record { nets = λ cell reached. refl; holds = λ cell x n reached held. held; gates = λ cell reached. refl }

same_order : (d : Design) (l m : ℕ → ℕ) (cells others : List ℕ) → AreLevels d l → AreLevels d m → IsOrder d l cells → IsOrder d m others → cells ≡ others
same_order d l m cells others a b mine theirs =
    one_order d no_tables no_tables everywhere everywhere (alike_self d) (alike_self d) l m cells others a b (in_circuits d l cells mine) (in_circuits d m others theirs)

-- ---- drawn nets that are the same below

module _ (d : Design) (t : Tables) (gates : ℕ → List GateEntry) (pins : ℕ → CellPins) (drawn more : ℕ → List Bool) where
  below_by : (cell x : ℕ) → ((k : ℕ) (p : flat.Place) → IsPlaced d cell k p → drawn p.cell ≡ more p.cell) → IsDrawnBelow d t pins drawn cell x → IsDrawnBelow d t pins more cell x
  below_by cell x same k = record {
    number = k.number;
    place = k.place;
    net = k.net;
    placed = k.placed;
    is_of = k.is_of;
    is_pin = k.is_pin;
    is_drawn = subst (λ (v : List Bool). slice_get v k.net ≡ Some true) (same k.number k.place k.placed) k.is_drawn;
  }

  drawn_to : (cell x : ℕ) → ((k : ℕ) (p : flat.Place) → IsPlaced d cell k p → drawn p.cell ≡ more p.cell) → HasGate gates cell x ⊎ IsDrawnBelow d t pins drawn cell x → HasGate gates cell x ⊎ IsDrawnBelow d t pins more cell x
  drawn_to cell x same (inl gate) = inl gate
  drawn_to cell x same (inr k) = inr (below_by cell x same k)

module _ (d : Design) (t : Tables) (gates : ℕ → List GateEntry) (pins : ℕ → CellPins) (drawn more : ℕ → List Bool) where
  drawn_by : (cell : ℕ) (v : List Bool) → ((k : ℕ) (p : flat.Place) → IsPlaced d cell k p → drawn p.cell ≡ more p.cell) → AreDrawn d t gates pins drawn cell v → AreDrawn d t gates pins more cell v
  drawn_by cell v same right = record {
    count = right.count;
    each = λ x lt.
        let both = right.each x lt in (
          (λ e. drawn_to d t gates pins drawn more cell x same (both.0 e)),
          (λ k. both.1 (drawn_to d t gates pins more drawn cell x (λ j p placed. sym (same j p placed)) k)),
        );
  }

  call_by : (cells : List ℕ) (cell k : ℕ) (p : flat.Place) (nets : List ℕ) (row : CallRow) → drawn p.cell ≡ more p.cell → IsCallOf t pins drawn cells cell k p nets row → IsCallOf t pins more cells cell k p nets row
  call_by cells cell k p nets row same call =
      let inner : pin_nets (pins p.cell) (drawn p.cell) ≡ pin_nets (pins p.cell) (more p.cell) = ap (pin_nets (pins p.cell)) same in
      record {
        circuit = call.circuit;
        count = call.count ∙ ap (λ (l : List ℕ). length l) inner;
        each = λ i x outer at there. call.each i x outer (ap (λ (l : List ℕ). slice_get l i) inner ∙ at) there;
      }

  circuit_by : (rules : List Rule) (unit : ℕ) (cells : List ℕ) (n cell : ℕ) (parts : CircuitParts) (c : Circuit) → ((e : ℕ) → IsReached d e → drawn e ≡ more e) → IsReached d cell
      → IsCircuitOf d t gates pins drawn rules unit cells n cell parts c → IsCircuitOf d t gates pins more rules unit cells n cell parts c
  circuit_by rules unit cells n cell parts c same reached right = record {
    has_name = right.has_name;
    has_nets = subst (λ (v : List Bool). AreCircuitNets (pins cell) v parts.nets c) (same cell reached) right.has_nets;
    has_pins = subst (λ (v : List Bool). AreCircuitPins (pins cell) v parts.nets c) (same cell reached) right.has_pins;
    has_devices = right.has_devices;
    has_calls = record {
      placements = right.has_calls.placements;
      rising = right.has_calls.rising;
      count = right.has_calls.count;
      each = λ a k p row at placed there. call_by cells cell k p parts.nets row (same p.cell (reached_below d cell k p reached placed)) (right.has_calls.each a k p row at placed there);
    };
    normal = right.normal;
  }

-- ---- two netlists over right tables

module _ (d : Linked) (r : Rules) (unit : ℕ) (sound : IsSound d) (s t : Tables) (rs : AreRightNets (plain d) (wiring_of r) s) (rt : AreRightNets (plain d) (wiring_of r) t) (x y : CircuitTables) (one other : Netlist) (level its_level : ℕ → ℕ)
    (a : AreTablesRight (plain d) (wiring_of r) s x one (device_rules r) unit level) (b : AreTablesRight (plain d) (wiring_of r) t y other (device_rules r) unit its_level) where
  alike : AreAlike (plain d) s t x.gates y.gates × AreAlike (plain d) t s y.gates x.gates
  alike = alike_back d r s t x.gates y.gates sound rs rt a.gates b.gates

  pub same_gates : (cell : ℕ) → IsReached (plain d) cell → x.gates cell ≡ y.gates cell
  same_gates cell reached = alike.0.gates cell reached

  same_pins : (cell : ℕ) → IsReached (plain d) cell → x.pins cell ≡ y.pins cell
  same_pins cell reached = pins_alike (plain d) (wiring_of r) s t x.gates y.gates (height_at d) (heights d sound) alike.0 alike.1 x.pins y.pins a.pins b.pins (suc (height_at d d.top)) cell (omega arith) reached

  pub same_cells : x.cells ≡ y.cells
  same_cells = one_order (plain d) s t x.gates y.gates alike.0 alike.1 level its_level x.cells y.cells a.levels b.levels a.cells b.cells

  -- over the other tables, with the same drawn nets
  drawn_there : (cell : ℕ) → IsReached (plain d) cell → AreDrawn (plain d) t y.gates y.pins x.drawn cell (x.drawn cell)
  drawn_there cell reached = drawn_along (plain d) s t x.gates y.gates alike.0 alike.1 x.pins y.pins same_pins x.drawn cell (x.drawn cell) reached (a.drawn cell reached)

  -- from the bottom up
  drawn_up : (n cell : ℕ) → height_at d cell < n → IsReached (plain d) cell → x.drawn cell ≡ y.drawn cell
  drawn_up zero cell lt reached = absurd (omega (arith, lt))
  drawn_up (suc n) cell lt reached =
      let below = λ (k : ℕ) (p : flat.Place) (placed : IsPlaced (plain d) cell k p).
      drawn_up n p.cell (let down = heights d sound cell k p placed in omega (arith, down, lt)) (reached_below (plain d) cell k p reached placed) in
      one_drawn (plain d) t y.gates y.pins y.drawn cell (x.drawn cell) (y.drawn cell) (drawn_by (plain d) t y.gates y.pins x.drawn y.drawn cell (x.drawn cell) below (drawn_there cell reached)) (b.drawn cell reached)

  same_drawn : (cell : ℕ) → IsReached (plain d) cell → x.drawn cell ≡ y.drawn cell
  same_drawn cell reached = drawn_up (suc (height_at d cell)) cell (omega arith) reached

  -- the first netlist's circuit of a cell, over the other tables
  circuit_there : (n cell : ℕ) (c : Circuit) → IsReached (plain d) cell → IsCircuitOf (plain d) s x.gates x.pins x.drawn (device_rules r) unit x.cells n cell (x.parts cell) c
      → IsCircuitOf (plain d) t y.gates y.pins y.drawn (device_rules r) unit y.cells n cell (x.parts cell) c
  circuit_there n cell c reached is =
      subst (λ (cs : List ℕ). IsCircuitOf (plain d) t y.gates y.pins y.drawn (device_rules r) unit cs n cell (x.parts cell) c) same_cells
      (circuit_by (plain d) t y.gates y.pins x.drawn y.drawn (device_rules r) unit x.cells n cell (x.parts cell) c same_drawn reached
      (circuit_along (plain d) s t x.gates y.gates alike.0 alike.1 x.pins y.pins same_pins x.drawn (device_rules r) unit x.cells n cell (x.parts cell) c reached is))

  same_circuit : (n : ℕ) (c e : Circuit) → slice_get one.circuits n ≡ Some c → slice_get other.circuits n ≡ Some e → c ≡ e
  same_circuit n c e is at =
      let cell = item_at one.circuits x.cells n c (sym a.circuits.count) is in
      let there : slice_get y.cells n ≡ Some cell.0 = subst (λ (cs : List ℕ). slice_get cs n ≡ Some cell.0) same_cells cell.1 in
      let reached = ((a.cells.each cell.0).0 (listed x.cells n cell.0 cell.1)).0 in
      let mine = circuit_there n cell.0 c reached (a.circuits.each n cell.0 c cell.1 is) in
      let theirs = b.circuits.each n cell.0 e there at in
      (one_circuit (plain d) (wiring_of r) t y.gates y.pins y.drawn (device_rules r) unit y.cells its_level n cell.0 (x.parts cell.0) (y.parts cell.0) c e (b.tables.nets cell.0 reached) b.cells mine theirs).1

  pub same_netlist : one ≡ other
  same_netlist =
      ap (λ (cs : List Circuit). let n : Netlist = record { circuits = cs } in n)
      (one_list one.circuits other.circuits (a.circuits.count ∙ ap (λ (cs : List ℕ). length cs) same_cells ∙ sym b.circuits.count) same_circuit)

  pub same_top : (top its_top : ℕ) → slice_get x.cells top ≡ Some d.top → slice_get y.cells its_top ≡ Some d.top → top ≡ its_top
  same_top top its_top here there =
      apart_at d.top y.cells top its_top (rising_apart (IsCellBefore its_level) y.cells (cell_not_before its_level) b.cells.rising) (subst (λ (cs : List ℕ). slice_get cs top ≡ Some d.top) same_cells here) there

-- ---- what is told of bad gates

told_alike : (r : Rules) (g h : ℕ → List GateEntry) (cells : List ℕ) → ((cell : ℕ) → IsListed cell cells → g cell ≡ h cell) → all_bad_gates g cells ≡ all_bad_gates h cells
told_alike r g h [] same = refl
told_alike r g h (c ∷ cs) same =
    ap (λ (l : List GateEntry). bad_gates c l ++ all_bad_gates g cs) (same c (inl refl)) ∙ ap (λ (l : List gate_tables.BadGate). bad_gates c (h c) ++ l) (told_alike r g h cs (λ cell i. same cell (inr i)))

-- ---- the files

module _ (r : Rules) (l m : Layout) (same : plain l.design ≡ plain m.design) (unit : l.header.unit_pm ≡ m.header.unit_pm) (levels : LevelLaw) (orders : OrderLaw) (texts : OneTextLaw)
    (one other : Netlist) (top its_top : ℕ) (bad its_bad : List BadGate) (text its_text : List ℕ) (a : IsNetlistFile l r one top bad text) (b : IsNetlistFile m r other its_top its_bad its_text) where
  abbrev d : Linked
  d = l.design

  abbrev s : Tables
  s = tables_of r a.layers a.nets

  abbrev t : Tables
  t = tables_of r b.layers b.nets

  rs : AreRightNets (plain d) (wiring_of r) s
  rs = right_nets (plain d) r a.layers a.nets a.are_layers a.are_nets

  rt : AreRightNets (plain d) (wiring_of r) t
  rt = subst (λ (f : Design). AreRightNets f (wiring_of r) t) (sym same) (right_nets (plain m.design) r b.layers b.nets b.are_layers b.are_nets)

  theirs : AreTablesRight (plain d) (wiring_of r) t b.of_cells.tables other (device_rules r) l.header.unit_pm (height_at m.design)
  theirs =
      subst (λ (u : ℕ). AreTablesRight (plain d) (wiring_of r) t b.of_cells.tables other (device_rules r) u (height_at m.design)) (sym unit)
      (subst (λ (f : Design). AreTablesRight f (wiring_of r) t b.of_cells.tables other (device_rules r) m.header.unit_pm (height_at m.design)) (sym same) b.of_cells.right)

  pub order : l.design.order ≡ m.design.order
  order = same_order (plain d) (height_at d) (height_at m.design) l.design.order m.design.order (levels d a.design) (subst (λ (f : Design). AreLevels f (height_at m.design)) (sym same) (levels m.design b.design))
      (orders d a.design) (subst (λ (f : Design). IsOrder f (height_at m.design) m.design.order) (sym same) (orders m.design b.design))

  gates : (cell : ℕ) → IsListed cell m.design.order → gates_of a.gates cell ≡ gates_of b.gates cell
  gates cell i =
      let reached : IsReached (plain d) cell = subst (λ (f : Design). IsReached f cell) (sym same) (((orders m.design b.design).each cell).0 i).0 in
      ap (λ (g : ℕ → List GateEntry). g cell) (sym a.of_cells.gates_are)
      ∙ same_gates d r l.header.unit_pm a.design s t rs rt a.of_cells.tables b.of_cells.tables one other (height_at d) (height_at m.design) a.of_cells.right theirs cell reached
      ∙ ap (λ (g : ℕ → List GateEntry). g cell) b.of_cells.gates_are

  netlist : one ≡ other
  netlist = same_netlist d r l.header.unit_pm a.design s t rs rt a.of_cells.tables b.of_cells.tables one other (height_at d) (height_at m.design) a.of_cells.right theirs

  pub same_file : IsSameNetlist one other top its_top bad its_bad text its_text
  same_file = record {
    netlist = netlist;
    top = same_top d r l.header.unit_pm a.design s t rs rt a.of_cells.tables b.of_cells.tables one other (height_at d) (height_at m.design) a.of_cells.right theirs top its_top a.of_cells.top_is
        (subst (λ (f : Design). slice_get b.of_cells.tables.cells its_top ≡ Some f.top) (sym same) b.of_cells.top_is);
    bad =
        a.told
        ∙ ap (λ (cs : List ℕ). map (told_bad r) (all_bad_gates (gates_of a.gates) cs)) order
        ∙ ap (map (told_bad r)) (told_alike r (gates_of a.gates) (gates_of b.gates) m.design.order gates)
        ∙ sym b.told;
    text = texts other text its_text (subst (λ (n : Netlist). IsWritten n text) netlist a.written) b.written;
  }

pub one_netlist : LevelLaw → OrderLaw → OneTextLaw → OneNetlistLaw
one_netlist levels orders texts l m r one other top its_top bad its_bad text its_text alike a b =
    let s = alike.same in
    same_file r l m (same_plain l.design m.design s.cells s.top alike.way) s.header.unit levels orders texts one other top its_top bad its_bad text its_text a b

pub ordered_once : LevelLaw → OrderLaw → OneTextLaw → OneOrderLaw
ordered_once levels orders texts l m r one other top its_top bad its_bad text its_text alike a b =
    let s = alike.same in
    order r l m (same_plain l.design m.design s.cells s.top alike.way) s.header.unit levels orders texts one other top its_top bad its_bad text its_text a b
