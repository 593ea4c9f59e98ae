-- What a reader in pieces is in contracts.
use Rattle.std.specs.Prelude.{ℕ, List, Option}
use Rattle.gds_elements.specs.declared.library.GdsFault.{GdsFault}
use Rattle.gds_elements.specs.Meaning.{Cell}

-- the bytes fed to it, the fault that it answered, and the structures that it handed over
pub record FedSoFar : Type 0 where
  pub fed : List ℕ
  pub fault : Option GdsFault
  pub taken : List Cell
