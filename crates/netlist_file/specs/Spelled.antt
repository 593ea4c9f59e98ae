-- A netlist that can be spelled: its names are bytes, one or more each, and its sizes fit.
use Rattle.std.specs.Prelude.{ℕ, ◌<◌, ◌^◌, List, length}
use Rattle.std.specs.List.{All, AllByRecursion}
use Rattle.plain_netlist.specs.Netlist.{Circuit, DeviceRow, Netlist}
use Rattle.spice_text.specs.Cards.{first_size, second_size}

-- one byte or more
pub record IsByteName (name : List ℕ) : Type 0 where
  pub some : 0 < length name
  pub bytes : All (λ b. b < 256) name

-- sizes are of 128 bits
pub record IsSpelledDevice (d : DeviceRow) : Type 0 where
  pub class : IsByteName d.class
  pub sizes : (first_size d < 2 ^ 128) × (second_size d < 2 ^ 128)

pub record IsSpelledCircuit (c : Circuit) : Type 0 where
  pub name : IsByteName c.name
  pub nets : AllByRecursion IsByteName c.nets
  pub devices : AllByRecursion IsSpelledDevice c.devices

abbrev pub IsSpelled : Netlist → Type 0
IsSpelled nl = AllByRecursion IsSpelledCircuit nl.circuits
