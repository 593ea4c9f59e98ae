-- Cells with a good gate in or below them.
use Rattle.std.specs.Prelude.{ℕ, ◌==◌, ◌||◌, Bool, true, false, List, get_or}
use Rattle.std.specs.List.{list_any}
use Rattle.cell_graph.specs.declared.cells.Place.{Place}
use Rattle.deep_tables.specs.Gates.{plain_state}
use Rattle.deep_tables.specs.declared.gates.Gate.{Gate}
use Rattle.flat_layout.specs.GateTables.{Bad, GateEntry, Good, GoodGate, Verdict, good_gates}
use Rattle.flat_layout.specs.Layout.{Design}
use Rattle.flat_layout.specs.Nets.{IsUnder}
use Rattle.plain_netlist.specs.Lists.{IsListed}

-- a good gate stands in the cell or below it
abbrev pub IsGated : Design → (ℕ → List GateEntry) → ℕ → Type 0
IsGated d gates cell =
    (e : ℕ) × IsUnder d cell e × (gate : GoodGate) × IsListed gate (good_gates (gates e))

-- as a test of a list
abbrev pub is_good : Verdict → Bool
is_good (Good row) = true
is_good (Bad cause) = false

abbrev pub has_good : List Gate → Bool
has_good gates = list_any (λ (gate : Gate). is_good (plain_state gate.state)) gates

-- some reference is one to a marked cell
abbrev pub has_marked : List Bool → List Place → Bool
has_marked marks places = list_any (λ (p : Place). get_or marks p.cell false) places

-- it has a circuit: the top, or a cell that is marked so
abbrev pub is_circuit_cell : ℕ → List Bool → ℕ → Bool
is_circuit_cell top marks cell = (cell == top) || get_or marks cell false
