-- A byte list means one library, or has one first fault.
use Rattle.std.specs.Prelude.{◌≡◌, ℕ, List}
use Rattle.gds_records.specs.Records.{Records}
use Rattle.gds_grammar.specs.Pattern.{Allows}
use Rattle.gds_grammar.specs.Grammar.{library}
use Rattle.gds_grammar.specs.Order.{kinds_of, IsEnded}
use Rattle.gds_elements.specs.Meaning.{Library}
use Rattle.gds_elements.specs.Faults.{Passes, Accepts, FirstFault}

-- accepted bytes mean one library
abbrev pub OneLibraryLaw : Type 0
OneLibraryLaw = (bytes : List ℕ) (v w : Library) → Accepts bytes v → Accepts bytes w → v ≡ w

-- and have no first fault
abbrev pub NoFaultLaw : Type 0
NoFaultLaw = (bytes : List ℕ) (v : Library) (number index offset : ℕ) → Accepts bytes v
    → FirstFault bytes number index offset → ⊥

-- bytes have one first fault at most
abbrev pub OneFaultLaw : Type 0
OneFaultLaw = (bytes : List ℕ) (m i o n j q : ℕ) → FirstFault bytes m i o
    → FirstFault bytes n j q → (m ≡ n) × (i ≡ j) × (o ≡ q)

-- the kinds of the records that are accepted are a text of the grammar
abbrev pub DerivedLaw : Type 0
DerivedLaw = (rs : Records) → Passes rs → IsEnded rs → Allows library (kinds_of rs)
