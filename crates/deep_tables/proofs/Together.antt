-- Tables that are each right by themselves are right together.
use Rattle.std.proofs.Common.{◌≡◌, inl, inr, ℕ, Bool, true, false, List, [], ◌∷◌, ◌++◌, Option, None, if◌then◌else◌, get_or, refl, sym, ◌∙◌, ap, subst, arith}
use Rattle.std.proofs.lemmas.Option.{get_or_from_slice_get, slice_get_cases, slice_get_past}
use Rattle.std.proofs.lemmas.List.{get_or_past}
use Rattle.flat_layout.specs.Layers.{Empty}
use Rattle.flat_layout.specs.Layout.{Design, IsReached}
use Rattle.flat_layout.specs.Nets.{AreListed, IsNetsOf, Tables}
use Rattle.flat_layout.specs.Pins as flat
use Rattle.flat_layout.specs.GateTables as gate_tables
use Rattle.flat_layout.specs.Values.{IsCellCircuitOf, IsLocalLayer}
use Rattle.flat_layout.specs.Regions.{formula}
use Rattle.cell_graph.specs.Linked.{plain, height_at}
use Rattle.cell_graph.proofs.Bridge.{heights}
use Rattle.rule_text.specs.Reading.{is_conductor}
use Rattle.rule_text.specs.Rules.{Rules}
use Rattle.rule_layers.specs.Meaning.{device_rules, wiring_of}
use Rattle.rule_layers.specs.Formulas.{formulas}
use Rattle.rule_layers.proofs.Wired.{conductors}
use Rattle.flat_laws.proofs.Items.{together as nets_together}
use Rattle.table_laws.proofs.Tabled.{leads_both, reached_under}
use Rattle.table_laws.proofs.Tabled as tabled
use Rattle.table_laws.proofs.Pinned.{pins_together}
use Rattle.table_laws.proofs.Drawing.{drawn_together}
use Rattle.table_laws.proofs.Circuited.{together}
use Rattle.deep_tables.specs.declared.layers.CellLayers.{CellLayers}
use Rattle.deep_tables.specs.Entries.{entry}
use Rattle.deep_tables.specs.Layers.{AreCellLayers, AreLayers, layer_of, squares_on}
use Rattle.deep_tables.specs.Nets.{AreCellNets, AreRightNets, ReadNetsLaw, RightNetsLaw, nets_in, own_of, rects_in, tables_of}
use Rattle.deep_tables.specs.Gates.{AreCellGates, AreRightGates, RightGatesLaw, gates_in, gates_of}
use Rattle.deep_tables.specs.Pins.{AreCellPins, AreRightPins, RightPinsLaw, pins_in, pins_of}
use Rattle.deep_tables.specs.Circuits.{AllTablesLaw, IsCellCircuit, value_in, value_of}
use Rattle.deep_tables.proofs.Nothing.{no_squares}
use Rattle.deep_tables.proofs.Reading.{layer_at, some_and}

-- past the rules' names the table has no squares, and nothing is read
named : (d : Design) (r : Rules) (layers : List (Option CellLayers)) (cell c : ℕ) → AreLayers d r layers → IsReached d cell → IsLocalLayer d (get_or (formulas r.names) c Empty) cell (rects_in (layer_of layers cell c))
named d r layers cell c right reached = elim (slice_get_cases (formulas r.names) c).1 [
  | inl h ↦
      let found = layer_at d r layers cell c h.0 right reached h.2 in
      subst (λ x. IsLocalLayer d x cell (rects_in (layer_of layers cell c))) (sym (get_or_from_slice_get (formulas r.names) c h.0 Empty h.2))
      (subst (λ o. IsLocalLayer d h.0 cell (rects_in o)) (sym found.1) found.2)
  | inr h ↦
      let v = some_and (AreCellLayers d r cell) (entry layers cell) (right cell reached) in
      let le = h.0 in let same = v.2.names in
      let none : layer_of layers cell c ≡ None = ap (λ o. squares_on o c) v.1 ∙ slice_get_past v.0.layers.items c (omega arith) in
      subst (λ x. IsLocalLayer d x cell (rects_in (layer_of layers cell c))) (sym (get_or_past (formulas r.names) c Empty le))
      (subst (λ o. IsLocalLayer d Empty cell (rects_in o)) (sym none) (no_squares d cell))
]

-- of a conductor, and of none
by_kind : (d : Design) (r : Rules) (layers : List (Option CellLayers)) (cell c : ℕ) → AreLayers d r layers → IsReached d cell → (b : Bool) → is_conductor c r ≡ b
    → IsLocalLayer d (formula (wiring_of r) c) cell (if b then rects_in (layer_of layers cell c) else [])
by_kind d r layers cell c right reached true e = subst (λ x. IsLocalLayer d x cell (rects_in (layer_of layers cell c))) (sym ((conductors r c).conductor e)) (named d r layers cell c right reached)
by_kind d r layers cell c right reached false e = subst (λ x. IsLocalLayer d x cell []) (sym ((conductors r c).none e)) (no_squares d cell)

pub right_nets : RightNetsLaw
right_nets d r layers nets are_layers are_nets = record {
  own = λ cell c reached. by_kind d r layers cell c are_layers reached (is_conductor c r) refl;
  nets = λ cell reached.
      let v = some_and (AreCellNets d r cell) (entry nets cell) (are_nets cell reached) in
      subst (λ o. IsNetsOf d (wiring_of r) cell (nets_in o)) (sym v.1) v.2;
}

-- each cell below is right by itself, and so together
pub read_nets : ReadNetsLaw
read_nets d r layers cell nets sound right reached by_itself = record {
  own = λ e c under. own_at e c (reached_under (plain d) cell e reached under);
  nets = λ k e p placed under.
      nets_together (plain d) (wiring_of r) t (height_at d) (heights d sound) e
      (λ f c more. own_at f c (reached_under (plain d) e f (reached_under (plain d) cell e reached (k ∷ under.0, (p, placed, under.1))) more))
      (λ f more. by_itself k f p placed (under.0 ++ more.0, leads_both (plain d) p.cell e f under.0 more.0 under.1 more.1));
}
  where
    t : Tables
    t = record { own = own_of r layers; nets = nets }

    own_at : (e c : ℕ) → IsReached (plain d) e → AreListed (plain d) (wiring_of r) t e c
    own_at e c there = tabled.own_of (plain d) (wiring_of r) t e c (by_kind (plain d) r layers e c right there (is_conductor c r) refl)

pub right_gates : RightGatesLaw
right_gates d r t table nets right cell reached =
    let v = some_and (AreCellGates d r cell) (entry table cell) (right cell reached) in
    subst (λ o. gate_tables.AreGates d (wiring_of r) t (device_rules r) cell (gates_in o)) (sym v.1) (v.2.gates t nets)

pub right_pins : RightPinsLaw
right_pins d r t gates table sound nets are_gates right cell reached =
    pins_together (plain d) (wiring_of r) t gates (pins_of table) (height_at d) (heights d sound) by_itself cell reached
  where
    by_itself : (e : ℕ) → IsReached (plain d) e → flat.ArePinsOf (plain d) (wiring_of r) t gates e (pins_of table e)
    by_itself e there =
        let v = some_and (AreCellPins (plain d) r e) (entry table e) (right e there) in
        subst (λ o. flat.ArePinsOf (plain d) (wiring_of r) t gates e (pins_in o)) (sym v.1) (v.2 t gates nets are_gates)

pub all_tables : AllTablesLaw
all_tables unit d r layers nets gates pins circuits level cells nl sound levels all are_cells netlist =
    let made = together (plain d) t (gates_of gates) (pins_of pins) (device_rules r) unit cells level level (value_of circuits) nl levels.lower are_cells by_itself netlist.count netlist.each in (
      made.0,
      record {
        levels = levels;
        tables = (tabled.tables (plain d) (wiring_of r) t level levels.lower right.own right.nets).0;
        gates = rows;
        pins = used;
        drawn = λ cell reached. drawn_together (plain d) t (gates_of gates) (pins_of pins) (λ c. (value_of circuits c).drawn) level levels.lower (λ e there. (by_itself e there).are_drawn) cell reached;
        cells = are_cells;
        circuits = made.1;
      },
    )
  where
    t : Tables
    t = tables_of r layers nets

    right : AreRightNets (plain d) (wiring_of r) t
    right = right_nets (plain d) r layers nets all.are_layers all.are_nets

    rows : AreRightGates (plain d) (wiring_of r) t (device_rules r) (gates_of gates)
    rows = right_gates (plain d) r t gates right all.are_gates

    used : AreRightPins (plain d) (wiring_of r) t (gates_of gates) (pins_of pins)
    used = right_pins d r t (gates_of gates) pins sound right rows all.are_pins

    by_itself : (e : ℕ) → IsReached (plain d) e → IsCellCircuitOf (plain d) t (gates_of gates) (pins_of pins) (device_rules r) unit cells e (value_of circuits e)
    by_itself e there =
        let v = some_and (IsCellCircuit unit (plain d) r e) (entry circuits e) (all.are_circuits e there) in
        subst (λ o. IsCellCircuitOf (plain d) t (gates_of gates) (pins_of pins) (device_rules r) unit cells e (value_in o)) (sym v.1)
        (v.2 t (gates_of gates) (pins_of pins) level cells (record { nets = right; gates_right = rows; pins_right = used; levels = levels; cells_right = are_cells }))
