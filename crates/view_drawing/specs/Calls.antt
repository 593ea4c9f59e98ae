-- Which placements call circuits, and which nets of their cells calls have pins on.
use Rattle.std.specs.Prelude.{◌≡◌, ℕ, ◌&&◌, Bool, true, false, List, Option, Some, None, get_or, map}
use Rattle.std.specs.Prelude.{slice_get}
use Rattle.std.specs.List.{filter}
use Rattle.deep_tables.specs.Circuits.{value_of}
use Rattle.deep_tables.specs.declared.circuits.CellCircuit.{CellCircuit}
use Rattle.flat_layout.specs.Layout.{Design, Place, IsPlaced}
use Rattle.flat_layout.specs.Pins.{CellPins}
use Rattle.geo_base.specs.declared.motion.Motion.{Motion}
use Rattle.net_walk.specs.declared.cells.Element.{Element}
use Rattle.plain_netlist.specs.Netlist.{Circuit}
use Rattle.view_shapes.specs.ReadLaws.{Called}

abbrev pub is_there : Option Circuit → Bool
is_there None = false
is_there (Some c) = true

abbrev pub has_circuit : List (Option CellCircuit) → ℕ → Bool
has_circuit table cell = is_there (value_of table cell).circuit

-- the motions of the placements whose cells have circuits, in order
abbrev pub called_motions : List (Option CellCircuit) → List Element → List Motion
called_motions table elements =
    map (λ e. e.motion) (filter (λ e. has_circuit table e.cell) elements)

-- calls have pins on the drawn pins of cells with circuits
abbrev pub called_in : List (Option CellCircuit) → (ℕ → CellPins) → Called
called_in table pins cell b = has_circuit table cell
    && (get_or (pins cell).pins b false && get_or (value_of table cell).drawn b false)

-- each call stands as its placement does
abbrev pub AreCallsDrawn : Design → ℕ → List ℕ → List Motion → Type 0
AreCallsDrawn d cell calls motions = (a k : ℕ) (p : Place) → slice_get calls a ≡ Some k
    → IsPlaced d cell k p → slice_get motions a ≡ Some p.motion
