-- What a numbering keeps.
use Rattle.std.specs.Prelude.{◌≡◌, ℕ, List, Option, Some, length, slice_get}
use Rattle.circuit_phase.specs.Numbering.{Numbered}
use Rattle.circuit_phase.specs.declared.numbering.Numbering.TheInside.{Inside}

-- a net has a number exactly where it stands at that place
pub record AreNumbers (numbers : List (Option ℕ)) (nets : List ℕ) : Type 0 where
  pub stands : (x i : ℕ) → slice_get numbers x ≡ Some (Some i) → slice_get nets i ≡ Some x
  pub has : (x i : ℕ) → slice_get nets i ≡ Some x → slice_get numbers x ≡ Some (Some i)

abbrev pub numbered_seen : Inside → Numbered
numbered_seen a = record { count = length a.numbers.items; nets = a.nets.items }

abbrev pub IsNumbering : Inside → Type 0
IsNumbering a = AreNumbers a.numbers.items a.nets.items
