-- The nodes of a pair of circuits: the nets, devices and calls of both.
use Rattle.std.specs.Prelude.{ℕ}

-- the left circuit is the layout's, the right one the schematic's
pub data Side : Type 0 where
  Layout : Side
  Schematic : Side

pub data Kind : Type 0 where
  Net : Kind
  Device : Kind
  Call : Kind

-- a net, device or call of one side, by its number
pub record Node : Type 0 where
  pub side : Side
  pub kind : Kind
  pub number : ℕ
