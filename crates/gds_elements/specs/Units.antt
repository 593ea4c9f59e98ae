-- The database unit of a library.
use Rattle.std.specs.Prelude.{ℕ, List}
use Rattle.fixed_num.specs.Real.{IsPicometres}
use Rattle.gds_elements.specs.Data.{real_in, unit_in}
use Rattle.gds_elements.specs.Meaning.{Library}
use Rattle.gds_elements.specs.Faults.{IsAccepted}

-- the real's value times 10 ^ 12 is nearest to k, one of 1 to 1,000,000, halves upwards
abbrev pub IsUnit : List ℕ → ℕ → Type 0
IsUnit bytes k = IsPicometres (real_in bytes) k

-- an accepted library has a unit
abbrev pub MeasuredLaw : Type 0
MeasuredLaw = (library : Library) → IsAccepted library → (k : ℕ) × IsUnit (unit_in library.units) k
