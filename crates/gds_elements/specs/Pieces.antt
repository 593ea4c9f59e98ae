-- What is held of a stream's bytes that come in pieces.
use Rattle.std.specs.Prelude.{◌≡◌, ◌≢◌, ◌⊎◌, ℕ, List, ◌++◌, true, false, Option, Some, None, Result}
use Rattle.std.specs.Prelude.{Ok, Err}
use Rattle.gds_records.specs.Records.{framing}
use Rattle.gds_elements.specs.declared.library.GdsFault.{GdsFault}
use Rattle.gds_elements.specs.declared.library.GdsFault.TheVariants.{Bad, NoMemory}
use Rattle.gds_elements.specs.declared.stream.Stream.{Stream}
use Rattle.gds_elements.specs.declared.pieces.Pieces.{Pieces}
use Rattle.gds_records.specs.Records.{Records, bytes_of}
use Rattle.gds_elements.specs.Faults.{FirstFault}
use Rattle.gds_elements.specs.Reading.{Stands}

-- a fault that more bytes don't mend
abbrev pub HasFault : List ℕ → GdsFault → Type 0
HasFault fed (Bad number index offset) = FirstFault fed number index offset × (number ≢ 1)
HasFault fed NoMemory = Unit {0}

-- records, and of the next one too few bytes; or the last record, and whatever follows
pub record Goes (fed held : List ℕ) (stream : Stream) : Type 0 where
  pub records : Records
  pub rest : List ℕ
  pub whole : fed ≡ bytes_of records ++ rest
  pub stands : Stands records stream
  pub end : (stream.ended ≡ true) ⊎ ((stream.ended ≡ false) × (rest ≡ held) × (framing held
      ≡ Some 1))

-- the bytes fed so far, by whether a fault was found in them
abbrev pub FedTo : List ℕ → List ℕ → Stream → Option GdsFault → Type 0
FedTo fed held stream None = Goes fed held stream
FedTo fed held stream (Some f) = HasFault fed f

-- these are the bytes fed so far
abbrev pub Fed : List ℕ → Pieces → Type 0
Fed fed s = FedTo fed s.held.items s.stream s.fault

-- a fault is told exactly where the bytes fed have one that more bytes don't mend
abbrev pub Tells : List ℕ → Result (Unit {0}) GdsFault → Type 0
Tells fed (Ok u) = (number index offset : ℕ) → number ≢ 1 → FirstFault fed number index offset → ⊥
Tells fed (Err f) = HasFault fed f

-- what came of the whole records of the bytes
abbrev pub Advances : List ℕ → Result (Unit {0}) GdsFault → Pieces → Type 0
Advances fed (Ok u) new = Goes fed new.held.items new.stream
Advances fed (Err f) new = HasFault fed f

-- a fault of want of memory was met before
abbrev pub IsOfMemory : GdsFault → Option GdsFault → Type 0
IsOfMemory (Bad number index offset) met = Unit {0}
IsOfMemory NoMemory met = met ≡ Some NoMemory
