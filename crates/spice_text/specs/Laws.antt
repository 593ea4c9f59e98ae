-- A written netlist text means the netlist, and a text has one meaning.
use Rattle.std.specs.Prelude.{◌≡◌, ◌<◌, ◌≤◌, ◌^◌, ℕ, List, length, slice_get, slice_index, Option}
use Rattle.std.specs.Prelude.{true, Some, None}
use Rattle.net_names.specs.Folding.{folded_bytes}
use Rattle.plain_netlist.specs.Netlist.{DeviceRow, Circuit, Netlist, IsCircuit, IsDevice}
use Rattle.plain_netlist.specs.Normal.{IsNormalNetlist}
use Rattle.plain_netlist.specs.Sound.{IsSoundNetlist}
use Rattle.plain_netlist.specs.declared.kinds.DeviceKind.{DeviceKind}
use Rattle.plain_netlist.specs.declared.kinds.DeviceKind.TheVariants.{Diode}
use Rattle.spice_rows.specs.Rows.{is_class}
use Rattle.spice_rows.specs.Sizes.{Limits}
use Rattle.spice_rows.specs.declared.fault.SpiceFault.{SpiceFault}
use Rattle.spice_rows.specs.declared.fault.SpiceFault.TheVariants.{NoMemory}
use Rattle.spice_text.specs.Cards.{AreFormed, first_size, second_size}
use Rattle.spice_text.specs.Means.{Means, SaysFirst}
use Rattle.spice_text.specs.Written.{IsWritten}

-- a name that a text can spell: one byte or more, and no small letter
pub record IsName (name : List ℕ) : Type 0 where
  pub some : 0 < length name
  pub bytes : (k : ℕ) → k < length name → slice_index name k < 256
  pub folded : folded_bytes name ≡ name

-- the names of circuits, nets and classes can be spelled, each class is one that cards of its kind
-- have, each device has the terminals and sizes of its kind, and each size is one of 128 bits
pub record IsWritable (nl : Netlist) : Type 0 where
  pub circuits : (t : ℕ) (c : Circuit) → IsCircuit nl t c → IsName c.name
  pub nets : (t n : ℕ) (c : Circuit) (name : List ℕ) → IsCircuit nl t c
      → slice_get c.nets n ≡ Some name → IsName name
  pub classes : (t i : ℕ) (d : DeviceRow) → IsDevice nl t i d → IsName d.class
  pub models : (t i : ℕ) (d : DeviceRow) → IsDevice nl t i d → is_class d.kind d.class ≡ true
  pub formed : AreFormed nl
  pub sizes : (t i : ℕ) (d : DeviceRow) → IsDevice nl t i d
      → (first_size d < 2 ^ 128) × (second_size d < 2 ^ 128)

-- no size of a device is above the limits: of a diode the second is an area
abbrev pub IsWithinFor : DeviceKind → Limits → DeviceRow → Type 0
IsWithinFor Diode limits d = (first_size d ≤ limits.length) × (second_size d ≤ limits.area)
IsWithinFor kind limits d = (first_size d ≤ limits.length) × (second_size d ≤ limits.length)

abbrev pub IsWithin : Limits → Netlist → Type 0
IsWithin limits nl =
    (t i : ℕ) (d : DeviceRow) → IsDevice nl t i d → IsWithinFor d.kind limits d

-- what is written means the netlist
abbrev pub WrittenMeansLaw : Type 0
WrittenMeansLaw = (nl : Netlist) (text : List ℕ) → IsSoundNetlist nl → IsNormalNetlist nl
    → IsWritable nl → IsWritten nl text → Means None text nl

-- also where values are limited, if no size is above the limits
abbrev pub ReadAgainLaw : Type 0
ReadAgainLaw = (limits : Limits) (nl : Netlist) (text : List ℕ) → IsSoundNetlist nl
    → IsNormalNetlist nl → IsWritable nl → IsWithin limits nl → IsWritten nl text
    → Means (Some limits) text nl

-- a text means one netlist at most
abbrev pub OneMeaningLaw : Type 0
OneMeaningLaw = (limits : Option Limits) (text : List ℕ) (n m : Netlist) → Means limits text n
    → Means limits text m → n ≡ m

-- and one that has a meaning has no fault
abbrev pub NoFaultLaw : Type 0
NoFaultLaw = (limits : Option Limits) (text : List ℕ) (n : Netlist) (fault : SpiceFault)
    → Means limits text n → SaysFirst limits text fault → fault ≡ NoMemory
