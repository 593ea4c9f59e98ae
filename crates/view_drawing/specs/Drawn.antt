-- What is drawn of the circuit of a cell, over what was found for all cells.
use Rattle.std.specs.Prelude.{◌≡◌, ◌<◌, ◌↔◌, ℕ, Bool, true, List, [], Option, Some, None, IsSome, get_or}
use Rattle.std.specs.Prelude.{length}
use Rattle.cell_graph.specs.Linked.{cell_at, hull_of, plain}
use Rattle.deep_tables.specs.Circuits.{value_of}
use Rattle.deep_tables.specs.Entries.{entry}
use Rattle.deep_tables.specs.Nets.{nets_in}
use Rattle.deep_tables.specs.Pins.{pins_of}
use Rattle.deep_tables.specs.declared.circuits.CellCircuit.{CellCircuit}
use Rattle.deep_tables.specs.declared.gates.CellGates.{CellGates}
use Rattle.deep_tables.specs.declared.gates.Gate.{Gate}
use Rattle.flat_layout.specs.Circuits.{AreCircuitNets}
use Rattle.flat_layout.specs.Layout.{Design, Place, IsPlaced, IsReached}
use Rattle.flat_layout.specs.Nets.{Tables}
use Rattle.net_phase.specs.Below.{AreHeldOwn}
use Rattle.net_phase.specs.Elements.{AreAllElements, element_lists}
use Rattle.net_phase.specs.Own.{AreOwnLists, own_at, rect_lists}
use Rattle.net_phase.specs.Reading.{nets_of}
use Rattle.plain_netlist.specs.Lists.{AreRising, IsListed}
use Rattle.plain_netlist.specs.Netlist.{Circuit}
use Rattle.rule_layers.specs.Meaning.{wiring_of}
use Rattle.rule_text.specs.Reaches.{MOST_REACH}
use Rattle.rule_text.specs.Seen.{rules_seen}
use Rattle.view_shapes.specs.ReadLaws.{Called}
use Rattle.geo_base.specs.declared.motion.Motion.{Motion}
use Rattle.view_netlist.specs.Drawing.{Drawn}
use Rattle.view_netlist.specs.declared.drawing.Shape.{Shape}
use Rattle.view_drawing.specs.Shown.{AreNetsDrawn}
use Rattle.view_shapes.specs.Shown.{called_by}
use Rattle.view_drawing.specs.Calls.{AreCallsDrawn, called_in, has_circuit}
use Rattle.view_drawing.specs.Devices.{Area, ArePlaced}
use Rattle.view_drawing.specs.declared.source.Lists.{Lists}
use Rattle.view_drawing.specs.declared.source.Source.{Source}

-- all tables have an entry for the cell
pub record HasEntries (s : Source) (cell : ℕ) : Type 0 where
  pub nets : IsSome (entry s.nets.now cell)
  pub gates : IsSome (entry s.gates.now cell)
  pub pins : IsSome (entry s.pins.now cell)
  pub circuits : IsSome (entry s.circuits.now cell)

abbrev pub AreAllThere : Source → Type 0
AreAllThere s = (cell : ℕ) → IsReached (plain s.design.now) cell → HasEntries s cell

-- what the lists say of own rectangles and nets
abbrev pub listed_tables : Lists → Tables
listed_tables l = record {
  own = own_at (rect_lists l.own.items);
  nets = λ cell. nets_in (get_or (nets_of l.nets.items) cell None);
}

-- the lists say of each reached cell what the tables say, and own rectangles reach no further out
-- of a cell's hull than names may
pub record AreListsOf (s : Source) (l : Lists) : Type 0 where
  pub conductors : l.conductors ≡ length (wiring_of (rules_seen s.rules.now)).conductors
  pub elements : AreAllElements s.design.now (element_lists l.elements.items)
  pub own : AreOwnLists s.design.now (rules_seen s.rules.now) (rect_lists l.own.items)
  pub held : AreHeldOwn MOST_REACH s.design.now (rect_lists l.own.items)
  pub nets : (cell : ℕ) → IsReached (plain s.design.now) cell
      → get_or (nets_of l.nets.items) cell None ≡ entry s.nets.now cell
  pub called : (cell b : ℕ) → IsReached (plain s.design.now) cell
      → called_by l.called.items cell b ≡ called_in s.circuits.now (pins_of s.pins.now) cell b

abbrev pub items_in : Option CellGates → List Gate
items_in None = []
items_in (Some v) = v.gates.items

abbrev pub drawn_in : List (Option CellCircuit) → ℕ → List Bool
drawn_in table cell = (value_of table cell).drawn

-- a cell has as many names as marks of drawn nets
abbrev pub AreAllNamed : Source → ℕ → Type 0
AreAllNamed s cell = length (pins_of s.pins.now cell).names
    ≡ length (drawn_in s.circuits.now cell)

-- For whatever nets of the cell the circuit's nets are, the rectangles of each cover exactly what
-- the cell's net shows: all that it holds but what comes by pins of calls.
abbrev pub AreCellNetsDrawn : Source → Tables → Called → ℕ → Circuit → (ℕ → List Shape) → Type 0
AreCellNetsDrawn s t called cell c drawn = AreAllNamed s cell → (nets : List ℕ)
    → AreCircuitNets (pins_of s.pins.now cell) (drawn_in s.circuits.now cell) nets c
    → AreNetsDrawn (plain s.design.now) t called cell nets drawn

-- these are the cells with circuits among those that a cell places
abbrev pub TellsCircuits : Source → ℕ → List ℕ → Type 0
TellsCircuits s cell cells = (k : ℕ) (p : Place) → IsPlaced (plain s.design.now) cell k p
    → IsListed p.cell cells ↔ (has_circuit s.circuits.now p.cell ≡ true)

-- these placements of a cell, in their order, are those of cells with circuits
pub record AreCallsOf (d : Design) (cell : ℕ) (cells calls : List ℕ) : Type 0 where
  pub placements : (k : ℕ) → IsListed k calls
      ↔ ((p : Place) × IsPlaced d cell k p × IsListed p.cell cells)
  pub rising : AreRising ◌<◌ calls

-- Each call stands as its placement does.
abbrev pub AreCellCallsDrawn : Source → ℕ → List Motion → Type 0
AreCellCallsDrawn s cell motions = (cells calls : List ℕ) → TellsCircuits s cell cells
    → AreCallsOf (plain s.design.now) cell cells calls
    → AreCallsDrawn (plain s.design.now) cell calls motions

-- all that is drawn of a cell's circuit: the cell's hull, its nets, devices and calls
pub record IsCellDrawn (s : Source) (t : Tables) (called : Called) (cell : ℕ) (c : Circuit)
    (areas : List Area) (v : Drawn) : Type 0 where
  pub hull : v.hull ≡ hull_of (cell_at s.design.now cell)
  pub count : length v.nets ≡ length c.nets
  pub nets : AreCellNetsDrawn s t called cell c (λ a. get_or v.nets a [])
  pub devices : ArePlaced areas (items_in (entry s.gates.now cell)) c.devices v.devices
  pub calls : AreCellCallsDrawn s cell v.calls
