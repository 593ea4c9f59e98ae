-- What a phase fills in for a cell is determined; it is what right tables say; and cell by cell
-- right tables are right together.
use Rattle.std.specs.Prelude.{◌≡◌, ℕ, Bool, List, Some, length}
use Rattle.geo_base.specs.declared.layer.LayerKey.{LayerKey}
use Rattle.geo_base.specs.declared.shapes.Rect.{Rect}
use Rattle.flat_layout.specs.Circuits.{AreCircuitCells, AreDrawn, CircuitParts, IsCircuitCell}
use Rattle.flat_layout.specs.Circuits.{IsCircuitOf, IsNetlistOf}
use Rattle.flat_layout.specs.Gates.{Rule}
use Rattle.flat_layout.specs.GateTables.{GateEntry}
use Rattle.flat_layout.specs.Layers.{Formula}
use Rattle.flat_layout.specs.Layout.{Design, Place, IsHeight, IsPlaced, IsReached}
use Rattle.flat_layout.specs.Nets.{AreListed, AreNets, AreTables, IsNetsOf, Tables}
use Rattle.flat_layout.specs.Pins.{ArePins, ArePinsOf, CellPins, IsAbove}
use Rattle.flat_layout.specs.Regions.{Wiring, formula}
use Rattle.flat_layout.specs.Values.{AreDrawnBelow, AreDrawnOf, CellCircuit, IsCellCircuitOf}
use Rattle.flat_layout.specs.Values.{IsLocalLayer, IsZone}
use Rattle.plain_netlist.specs.Netlist.{Circuit, Netlist, IsCircuit}

-- a cell has one list of disturbed squares, and one of the squares that it itself holds
abbrev pub OneZoneLaw : Type 0
OneZoneLaw = (d : Design) (keys : List LayerKey) (n cell : ℕ) (v z : List Rect)
    → IsZone d keys n cell v → IsZone d keys n cell z → v ≡ z

abbrev pub OneLayerLaw : Type 0
OneLayerLaw = (d : Design) (name : Formula) (cell : ℕ) (v z : List Rect)
    → IsLocalLayer d name cell v → IsLocalLayer d name cell z → v ≡ z

-- and one list of rectangles for each conductor
abbrev pub OneOwnLaw : Type 0
OneOwnLaw = (d : Design) (w : Wiring) (s t : Tables) (cell c : ℕ) → AreListed d w s cell c
    → AreListed d w t cell c → s.own cell c ≡ t.own cell c

-- local layers of all conductors, and nets that are right by themselves, are right tables
abbrev pub TablesLaw : Type 0
TablesLaw = (d : Design) (w : Wiring) (t : Tables) (height : ℕ → ℕ) → IsHeight d height
    → ((cell c : ℕ) → IsReached d cell → IsLocalLayer d (formula w c) cell (t.own cell c))
    → ((cell : ℕ) → IsReached d cell → IsNetsOf d w cell (t.nets cell))
    → AreTables d w t height × ((cell c : ℕ) → IsReached d cell → AreListed d w t cell c)

-- over the same tables a cell has one table of pins
abbrev pub OnePinsLaw : Type 0
OnePinsLaw = (d : Design) (w : Wiring) (t : Tables) (gates : ℕ → List GateEntry)
    (pins : ℕ → CellPins) (cell : ℕ) (v z : CellPins)
    → ArePins d w t gates pins cell v → ArePins d w t gates pins cell z → v ≡ z

-- so what a job read of a cell above is what any right pins say
abbrev pub ReadPinsLaw : Type 0
ReadPinsLaw = (d : Design) (w : Wiring) (t : Tables) (gates : ℕ → List GateEntry)
    (pins : ℕ → CellPins) (cell e : ℕ) (v : CellPins)
    → ((f : ℕ) → IsAbove d f cell → ArePins d w t gates pins f (pins f)) → IsAbove d e cell
    → ArePinsOf d w t gates e v → v ≡ pins e

-- and where each cell's pins are right by themselves, all are right together
abbrev pub PinsTogetherLaw : Type 0
PinsTogetherLaw = (d : Design) (w : Wiring) (t : Tables) (gates : ℕ → List GateEntry)
    (pins : ℕ → CellPins) (height : ℕ → ℕ) → IsHeight d height
    → ((e : ℕ) → IsReached d e → ArePinsOf d w t gates e (pins e)) → (cell : ℕ) → IsReached d cell
    → ArePins d w t gates pins cell (pins cell)

-- the same of drawn nets
abbrev pub OneDrawnLaw : Type 0
OneDrawnLaw = (d : Design) (t : Tables) (gates : ℕ → List GateEntry) (pins : ℕ → CellPins)
    (drawn : ℕ → List Bool) (cell : ℕ) (v z : List Bool)
    → AreDrawn d t gates pins drawn cell v → AreDrawn d t gates pins drawn cell z → v ≡ z

abbrev pub ReadDrawnLaw : Type 0
ReadDrawnLaw = (d : Design) (t : Tables) (gates : ℕ → List GateEntry) (pins : ℕ → CellPins)
    (drawn : ℕ → List Bool) (cell k : ℕ) (p : Place) (v : List Bool)
    → AreDrawnBelow d t gates pins drawn cell → IsPlaced d cell k p
    → AreDrawnOf d t gates pins p.cell v → v ≡ drawn p.cell

abbrev pub DrawnTogetherLaw : Type 0
DrawnTogetherLaw = (d : Design) (t : Tables) (gates : ℕ → List GateEntry) (pins : ℕ → CellPins)
    (drawn : ℕ → List Bool) (height : ℕ → ℕ) → IsHeight d height
    → ((e : ℕ) → IsReached d e → AreDrawnOf d t gates pins e (drawn e)) → (cell : ℕ)
    → IsReached d cell → AreDrawn d t gates pins drawn cell (drawn cell)

-- over right nets and one table of drawn nets a cell has one circuit of a number, made of the same
-- nets and calls
abbrev pub OneCircuitLaw : Type 0
OneCircuitLaw = (d : Design) (w : Wiring) (t : Tables) (gates : ℕ → List GateEntry)
    (pins : ℕ → CellPins) (drawn : ℕ → List Bool) (rules : List Rule) (unit : ℕ) (cells : List ℕ)
    (level : ℕ → ℕ) (n cell : ℕ) (p q : CircuitParts) (c e : Circuit)
    → AreNets d w t cell (t.nets cell) → AreCircuitCells d level gates cells
    → IsCircuitOf d t gates pins drawn rules unit cells n cell p c
    → IsCircuitOf d t gates pins drawn rules unit cells n cell q e → (p ≡ q) × (c ≡ e)

-- where each cell's drawn nets and circuit are right by themselves, the circuits in order are the
-- netlist
abbrev pub CircuitsTogetherLaw : Type 0
CircuitsTogetherLaw = (d : Design) (t : Tables) (gates : ℕ → List GateEntry) (pins : ℕ → CellPins)
    (rules : List Rule) (unit : ℕ) (cells : List ℕ) (height level : ℕ → ℕ) (v : ℕ → CellCircuit)
    (nl : Netlist)
    → IsHeight d height → AreCircuitCells d level gates cells
    → ((cell : ℕ) → IsReached d cell → IsCellCircuitOf d t gates pins rules unit cells cell
    (v cell))
    → length nl.circuits ≡ length cells
    → ((n cell : ℕ) (c : Circuit) → IsCircuitCell cells n cell → IsCircuit nl n c
    → (v cell).circuit ≡ Some c)
    → (parts : ℕ → CircuitParts) × IsNetlistOf d t gates pins (λ cell. (v cell).drawn) rules unit
    cells parts nl
