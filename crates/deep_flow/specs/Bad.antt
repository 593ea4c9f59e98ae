-- The bad gates of a layout, as they are told.
use Rattle.std.specs.Prelude.{◌≡◌, ◌<◌, ℕ, List, [], ◌∷◌, ◌++◌, Option, Some, get_or, length, map}
use Rattle.std.specs.Prelude.{slice_get}
use Rattle.flat_layout.specs.GateTables.{all_bad_gates, bad_gates}
use Rattle.flat_layout.specs.GateTables as flat
use Rattle.deep_tables.specs.Gates.{gates_of, plain_gate}
use Rattle.deep_tables.specs.declared.gates.BadGate.{BadGate}
use Rattle.deep_tables.specs.declared.gates.CellGates.{CellGates}
use Rattle.deep_tables.specs.declared.gates.Gate.{Gate}
use Rattle.rule_text.specs.Rules.{Rules, class_in}

-- the classes of all device rules, as the rule file writes them: of transistors, then of the others
abbrev pub classes_of : Rules → List (List ℕ)
classes_of r = map (λ d. d.class) r.devices ++ map class_in r.more

abbrev pub device_count : Rules → ℕ
device_count r = length (classes_of r)

-- the class of a device rule
abbrev pub class_at : Rules → ℕ → List ℕ
class_at r n = get_or (classes_of r) n []

-- cell, class, least square and cause
abbrev pub told_bad : Rules → flat.BadGate → BadGate
told_bad r b = record {
  cell = b.cell;
  class = class_at r b.at.rule;
  least = b.at.square;
  cause = b.cause;
}

-- of a cell's gate, nothing where it is good
abbrev pub told_of : Rules → ℕ → Gate → List BadGate
told_of r cell x = map (told_bad r) (bad_gates cell (plain_gate x ∷ []))

-- the gates' device rules are among so many
abbrev pub HaveRules : ℕ → List Gate → Type 0
HaveRules count gates = (i : ℕ) (x : Gate) → slice_get gates i ≡ Some x → x.device < count

-- the bad gates of these cells, cell by cell
abbrev pub told_gates : Rules → List (Option CellGates) → List ℕ → List BadGate
told_gates r gates cells = map (told_bad r) (all_bad_gates (gates_of gates) cells)
