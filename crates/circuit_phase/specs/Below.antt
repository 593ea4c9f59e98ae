-- What is read of the cells below a cell.
use Rattle.std.specs.Prelude.{◌≡◌, ◌<◌, ℕ, Bool, List, [], Option, Some, None, IsSomeAnd, length}
use Rattle.std.specs.Prelude.{get_or}
use Rattle.deep_tables.specs.Circuits.{drawn_of}
use Rattle.deep_tables.specs.Entries.{entry}
use Rattle.deep_tables.specs.Nets.{nets_in}
use Rattle.deep_tables.specs.Positions.{ArePositions}
use Rattle.deep_tables.specs.declared.circuits.CellCircuit.{CellCircuit}
use Rattle.deep_tables.specs.declared.nets.CellNets.{CellNets}
use Rattle.deep_tables.specs.declared.pins.CellPins.{CellPins}

abbrev pub drawn_or_none : Option (List Bool) → List Bool
drawn_or_none None = []
drawn_or_none (Some marks) = marks

-- the drawn nets of a cell: what the value of its job says
abbrev pub drawn_by : (ℕ → Option CellCircuit) → List ℕ → ℕ → List Bool
drawn_by value jobs cell = drawn_or_none (drawn_of (value (get_or jobs cell 0)))

abbrev pub nets_by : List (Option CellNets) → ℕ → ℕ
nets_by table cell = (nets_in (entry table cell)).count

-- the cell has a job whose value may be read, and its pins and drawn nets are as many as its nets
pub record IsReadable (may : ℕ → Type 0) (value : ℕ → Option CellCircuit) (jobs numbers : List ℕ)
    (circuits : List ℕ) (nets : List (Option CellNets)) (pins : List (Option CellPins))
    (cell : ℕ) : Type 0 where
  pub job_in : cell < length jobs
  pub job : may (get_or jobs cell 0)
  pub value_there : IsSomeAnd (value (get_or jobs cell 0)) (λ v. length v.drawn.items
      ≡ nets_by nets cell)
  pub pins_there : IsSomeAnd (entry pins cell) (λ v. length v.pin.items ≡ nets_by nets cell)
  pub number_in : cell < length numbers
  pub positions : ArePositions circuits (length circuits) numbers
