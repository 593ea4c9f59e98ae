-- What a reader of layouts in pieces is in contracts.
use Rattle.std.specs.Prelude.{ℕ, List, Option}
use Rattle.gds_layout.specs.declared.layout.LayoutFault.{LayoutFault}

-- the bytes fed to it, and the fault that it answered
pub record FedSoFar : Type 0 where
  pub fed : List ℕ
  pub fault : Option LayoutFault
