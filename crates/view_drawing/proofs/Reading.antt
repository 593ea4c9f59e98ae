-- What the tables and the lists say of a cell that the top reaches.
use Rattle.std.proofs.Common.{◌≡◌, ◌∙◌, ◌<◌, ℕ, Bool, List, Option, Some, None, ap, length, slice_get, subst, sym}
use Rattle.base_laws.proofs.Items.{map_to}
use Rattle.std.proofs.lemmas.List.{length-map}
use Rattle.cell_graph.proofs.Bridge.{heights}
use Rattle.cell_graph.specs.Linked.{IsSound, Linked, height_at, plain}
use Rattle.deep_tables.specs.Circuits.{drawn_at}
use Rattle.deep_tables.specs.Entries.{entry}
use Rattle.deep_tables.specs.Gates.{list_of}
use Rattle.deep_tables.specs.Nets.{AreRightNets}
use Rattle.deep_tables.specs.Pins.{name_in, pins_in, pins_of, plain_pins}
use Rattle.deep_tables.specs.declared.circuits.CellCircuit.{CellCircuit}
use Rattle.deep_tables.specs.declared.gates.CellGates.{CellGates}
use Rattle.deep_tables.specs.declared.gates.Gate.{Gate}
use Rattle.deep_tables.specs.declared.pins.CellPins.{CellPins}
use Rattle.flat_laws.proofs.Cover.{reached_below}
use Rattle.flat_laws.proofs.Items.{placed_at}
use Rattle.flat_layout.specs.Circuits.{AreCircuitNets}
use Rattle.flat_layout.specs.Layout.{IsReached}
use Rattle.flat_layout.specs.Nets.{Tables}
use Rattle.net_link_laws.specs.Laws.{AreNetsUnder}
use Rattle.net_phase.specs.Elements.{AreElements}
use Rattle.net_walk.specs.Walk.{place_of}
use Rattle.net_walk.specs.declared.cells.Element.{Element}
use Rattle.plain_netlist.specs.Netlist.{Circuit}
use Rattle.rule_layers.specs.Meaning.{wiring_of}
use Rattle.rule_text.specs.Rules.{Rules}
use Rattle.table_laws.proofs.Tabled.{reached_under}
use Rattle.table_laws.proofs.Tabled as tabled
use Rattle.view_drawing.specs.Shown.{TellsNets}
use Rattle.view_drawing.specs.Drawn.{drawn_in, items_in}
use Rattle.view_drawing.proofs.Marking.{drawn_is}

pub nets_under : (d : Linked) (r : Rules) (t : Tables) (cell : ℕ) → IsSound d → AreRightNets (plain d) (wiring_of r) t → IsReached (plain d) cell → AreNetsUnder (plain d) (wiring_of r) t cell
nets_under d r t cell sound right reached e under =
    (tabled.tables (plain d) (wiring_of r) t (height_at d) (heights d sound) right.own right.nets).0.nets e (reached_under (plain d) cell e reached under)

pub inside : (d : Linked) (cell : ℕ) → IsSound d → IsReached (plain d) cell → cell < length d.cells
inside d cell sound reached =
    let at = sound.order.all cell reached in
    subst (λ k. k < length d.cells) at.2 (sound.order.inside at.0 at.1)

-- a placement's cell is reached
pub element_reached : (d : Linked) (cell k : ℕ) (es : List Element) (e : Element) → AreElements d cell es → IsReached (plain d) cell → slice_get es k ≡ Some e → IsReached (plain d) e.cell
element_reached d cell k es e all reached at =
    reached_below (plain d) cell k (place_of e) reached
    (placed_at (plain d) cell k (place_of e) (sym (ap (λ ps. slice_get ps k) all.all) ∙ map_to place_of es k e at))

pub gates_are : (o : Option CellGates) (gates : List Gate) → list_of o ≡ Some gates → items_in o ≡ gates
gates_are None gates e = absurd (let z : ⊥ = cc in z)
gates_are (Some v) gates e = cc

-- the numbers that names tell, by what the tables say
pub told : (pins : List (Option CellPins)) (table : List (Option CellCircuit)) (cell : ℕ) (v : CellPins) (ds : List Bool) (numbers : List (Option ℕ)) (names : List (List ℕ)) (nets : List ℕ) (c : Circuit)
    → entry pins cell ≡ Some v → drawn_at table cell ≡ Some ds → names ≡ c.nets
    → (length v.names.items ≡ length ds → (ns : List ℕ) (k : Circuit) → k.nets ≡ names → AreCircuitNets (plain_pins v) ds ns k → TellsNets ds numbers ns)
    → length (pins_of pins cell).names ≡ length (drawn_in table cell) → AreCircuitNets (pins_of pins cell) (drawn_in table cell) nets c → TellsNets ds numbers nets
told pins table cell v ds numbers names nets c e f g tells long h =
    let p : pins_of pins cell ≡ plain_pins v = ap (λ (o : Option CellPins). pins_in o) e in
    let d : drawn_in table cell ≡ ds = drawn_is (entry table cell) ds f in
    let many : length v.names.items ≡ length ds = sym (length-map v.names.items name_in) ∙ (sym (ap (λ q. length q.names) p) ∙ (long ∙ ap (λ (l : List Bool). length l) d)) in
    tells many nets c (sym g) (subst (λ (l : List Bool). AreCircuitNets (plain_pins v) l nets c) d (subst (λ q. AreCircuitNets q (drawn_in table cell) nets c) p h))
