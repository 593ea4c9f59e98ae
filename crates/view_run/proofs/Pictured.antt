-- What is drawn over the lists of a layout's cells, and the picture that is joined of it, are those of
-- the layout.
use Rattle.std.proofs.Common.{◌≡◌, ℕ, List, Option, Some, None, IsSome, IsSomeAnd, length, refl, slice_get, subst, sym}
use Rattle.cell_graph.specs.Linked.{Linked, plain}
use Rattle.deep_tables.specs.Entries.{entry}
use Rattle.deep_tables.specs.Circuits.{IsCellCircuit}
use Rattle.deep_tables.specs.Gates.{AreCellGates}
use Rattle.deep_tables.specs.Nets.{AreCellNets, AreRightNets}
use Rattle.deep_tables.specs.Pins.{AreCellPins, pins_of}
use Rattle.deep_tables.specs.declared.circuits.CellCircuit.{CellCircuit}
use Rattle.deep_tables.specs.declared.gates.CellGates.{CellGates}
use Rattle.deep_tables.specs.declared.nets.CellNets.{CellNets}
use Rattle.deep_tables.specs.declared.pins.CellPins.{CellPins}
use Rattle.flat_layout.specs.Layout.{IsReached}
use Rattle.gds_layout.specs.declared.layout.Layout.{Layout}
use Rattle.plain_netlist.proofs.Members.{listed}
use Rattle.plain_netlist.specs.Netlist.{Netlist}
use Rattle.rule_layers.specs.Meaning.{wiring_of}
use Rattle.rule_text.specs.Rules.{Rules}
use Rattle.rule_text.specs.Seen.{rules_seen}
use Rattle.rule_text.specs.declared.rules.RuleSet.{RuleSet}
use Rattle.view_drawing.proofs.Reading.{inside}
use Rattle.view_drawing.specs.Calls.{called_in}
use Rattle.view_drawing.specs.Devices.{AreSmallRegions, areas_of}
use Rattle.view_drawing.specs.Drawn.{AreAllThere, AreListsOf, listed_tables}
use Rattle.view_drawing.specs.declared.source.Lists.{Lists}
use Rattle.view_drawing.specs.declared.source.Source.{Source}
use Rattle.view_file.specs.declared.layout.Picture.{Picture}
use Rattle.view_labels.specs.Labels.{AreInside}
use Rattle.view_netlist.specs.Drawing.{AreAllSmall}
use Rattle.view_picture.specs.Picture.{AreDrawn}
use Rattle.view_shapes.specs.Shown.{called_by}
use Rattle.view_picture.specs.Far.{HasFarCell}
use Rattle.view_run.specs.Far.{HasFarCircuit}
use Rattle.view_run.specs.Found.{HasCells}
use Rattle.view_run.specs.Sketched.{AreSketched, IsJoinedBy}
use Rattle.view_run.specs.Views.{ArePictured}
use Rattle.view_picture.specs.declared.pictures.Sketched.{Sketched}
use Rattle.view_run.specs.declared.found.Cells.{Cells}

pub reached : (l : Layout) (r : Rules) (c : Cells) → HasCells l r c → (k cell : ℕ) → slice_get c.cells.items k ≡ Some cell → IsReached (plain l.design) cell
reached l r c h k cell e = ((h.cells.each cell).0 (listed c.cells.items k cell e)).0

some_of_and : {X : Type 0} (P : X → Type 0) (o : Option X) → IsSomeAnd o P → IsSome o
some_of_and P None h = absurd h
some_of_and P (Some x) h = refl

-- the tables have an entry for each cell that the top reaches
pub all_there : (l : Layout) (r : Rules) (c : Cells) (s : Source) → HasCells l r c → s.design.now ≡ l.design → s.nets.now ≡ c.tables.gated.nets → s.gates.now ≡ c.tables.gated.gates → s.pins.now ≡ c.tables.pins → s.circuits.now ≡ c.circuits → AreAllThere s
all_there l r c s h design nets gates pins circuits cell reached =
    let here : IsReached (plain l.design) cell = subst (λ (d : Linked). IsReached (plain d) cell) design reached in
    let t = h.tables in
    let d = plain l.design in
    record {
      nets = subst (λ (x : List (Option CellNets)). IsSome (entry x cell)) (sym nets) (some_of_and (AreCellNets d r cell) (entry c.tables.gated.nets cell) (t.are_nets cell here));
      gates = subst (λ (x : List (Option CellGates)). IsSome (entry x cell)) (sym gates) (some_of_and (AreCellGates d r cell) (entry c.tables.gated.gates cell) (t.are_gates cell here));
      pins = subst (λ (x : List (Option CellPins)). IsSome (entry x cell)) (sym pins) (some_of_and (AreCellPins d r cell) (entry c.tables.pins cell) (t.are_pins cell here));
      circuits = subst (λ (x : List (Option CellCircuit)). IsSome (entry x cell)) (sym circuits) (some_of_and (IsCellCircuit l.header.unit_pm d r cell) (entry c.circuits cell) (t.are_circuits cell here));
    }

module _ (l : Layout) (rules : RuleSet) (c : Cells) (names : List (List ℕ)) (written : Netlist) (s : Source) (lists : Lists) (design : s.design.now ≡ l.design) (same : s.rules.now ≡ rules) where
  -- the nets are right for the layout
  right_here : AreRightNets (plain s.design.now) (wiring_of (rules_seen s.rules.now)) (listed_tables lists) → AreRightNets (plain l.design) (wiring_of (rules_seen rules)) (listed_tables lists)
  right_here h =
      subst (λ (q : RuleSet). AreRightNets (plain l.design) (wiring_of (rules_seen q)) (listed_tables lists)) same
      (subst (λ (d : Linked). AreRightNets (plain d) (wiring_of (rules_seen s.rules.now)) (listed_tables lists)) design h)

  called_here : AreListsOf s lists → (cell b : ℕ) → IsReached (plain l.design) cell → called_by lists.called.items cell b ≡ called_in s.circuits.now (pins_of s.pins.now) cell b
  called_here h = subst (λ (d : Linked). (cell b : ℕ) → IsReached (plain d) cell → called_by lists.called.items cell b ≡ called_in s.circuits.now (pins_of s.pins.now) cell b) design h.called

  pub sketched : (v : Sketched) → v.cells.items ≡ c.cells.items → v.names.items ≡ names → AreInside (length l.design.cells) c.cells.items → HasCells l (rules_seen rules) c
      → s.layers.now ≡ c.tables.gated.layers → s.nets.now ≡ c.tables.gated.nets → s.gates.now ≡ c.tables.gated.gates → s.pins.now ≡ c.tables.pins → s.circuits.now ≡ c.circuits → AreListsOf s lists
      → AreRightNets (plain s.design.now) (wiring_of (rules_seen s.rules.now)) (listed_tables lists) → AreDrawn s (listed_tables lists) (called_by lists.called.items) c.cells.items names written.circuits v.sketch
      → AreAllSmall v.sketch.drawings.items → AreSmallRegions (areas_of v.sketch.regions.regions.items) → AreSketched l rules c names written v
  sketched v cells named inside h layers nets gates pins circuits are right drawn small small_regions = record {
    cells_are = cells;
    names_are = named;
    inside = subst (λ (xs : List ℕ). AreInside (length l.design.cells) xs) (sym cells) inside;
    small = small;
    small_regions = small_regions;
    source = s;
    are = record { design = design; rules = rw same refl; tables = rw (layers, nets, gates, pins, circuits) h.tables; cells_are = rw gates h.cells };
    rules_are = same;
    layers = layers;
    nets = nets;
    gates = gates;
    pins = pins;
    sketch = record { nets = listed_tables lists; right = right_here right; called = called_by lists.called.items; pins = called_here are; drawn = drawn };
  }

  -- something of it that is too far is of the layout
  pub far_circuit : HasCells l (rules_seen rules) c → s.layers.now ≡ c.tables.gated.layers → s.nets.now ≡ c.tables.gated.nets → s.gates.now ≡ c.tables.gated.gates → s.pins.now ≡ c.tables.pins → s.circuits.now ≡ c.circuits → AreListsOf s lists
      → AreRightNets (plain s.design.now) (wiring_of (rules_seen s.rules.now)) (listed_tables lists) → HasFarCell s (listed_tables lists) (called_by lists.called.items) → HasFarCircuit l (rules_seen rules)
  far_circuit h layers nets gates pins circuits are right far = record {
    source = s;
    cells = c.cells.items;
    are = record { design = design; rules = rw same refl; tables = rw (layers, nets, gates, pins, circuits) h.tables; cells_are = rw gates h.cells };
    nets = listed_tables lists;
    right = right_here right;
    called = called_by lists.called.items;
    pins = called_here are;
    far = far;
  }

-- the picture that is joined of it
pub pictured : (l : Layout) (rules : RuleSet) (c : Cells) (names : List (List ℕ)) (written shown : Netlist) (v : Sketched) (p : Picture) → AreSketched l rules c names written v
    → IsJoinedBy l.design rules.names.items v.cells.items v.names.items v.sketch.drawings.items written shown p → ArePictured l (rules_seen rules) c names written shown p
pictured l rules c names written shown v p a h =
    let s = a.source in
    let by_cells = subst (λ (xs : List ℕ). IsJoinedBy l.design rules.names.items xs v.names.items v.sketch.drawings.items written shown p) a.cells_are h in
    let by_names = subst (λ (xs : List (List ℕ)). IsJoinedBy l.design rules.names.items c.cells.items xs v.sketch.drawings.items written shown p) a.names_are by_cells in
    let by_rules = subst (λ (q : RuleSet). IsJoinedBy l.design q.names.items c.cells.items names v.sketch.drawings.items written shown p) (sym a.rules_are) by_names in
    let by = subst (λ (d : Linked). IsJoinedBy d s.rules.now.names.items c.cells.items names v.sketch.drawings.items written shown p) (sym a.are.design) by_rules in
    record {
      source = s;
      cells = c.cells.items;
      are = a.are;
      layers = a.layers;
      nets = a.nets;
      gates = a.gates;
      pins = a.pins;
      picture = record {
        nets = a.sketch.nets;
        right = a.sketch.right;
        called = a.sketch.called;
        pins = a.sketch.pins;
        picture = record { origins = by.origins; have = by.have; picture = record { sketch = v.sketch; drawn = a.sketch.drawn; joined = by.joined } };
      };
    }
