-- What can be wrong with a netlist, which circuit shows it first, and what a sound netlist is.
use Rattle.std.specs.Prelude.{◌≡◌, ◌≢◌, ◌⊎◌, ◌↔◌, ◌<◌, ◌≤◌, ℕ, List, [], ◌∷◌, length, Some}
use Rattle.std.specs.Prelude.{slice_get}
use Rattle.plain_netlist.specs.Lists.{IsListed}
use Rattle.plain_netlist.specs.Devices.{terminal_nets}
use Rattle.plain_netlist.specs.Netlist.{DeviceRow, CallRow, Circuit, Netlist, IsCircuit}
use Rattle.plain_netlist.specs.Netlist.{IsCall, IsDevice, IsPin, HasNet, HasDevice}
use Rattle.plain_netlist.specs.Normal.{appearances, IsNormalNetlist}

-- a path of calls leads from circuit c to circuit d
abbrev pub IsCallPath : Netlist → ℕ → List ℕ → ℕ → Type 0
IsCallPath nl c [] d = c ≡ d
IsCallPath nl c (k ∷ ks) d = (row : CallRow) × IsCall nl c k row × IsCallPath nl row.circuit ks d

-- circuit d is circuit c, or c calls it, at once or through others
abbrev pub IsCalledFrom : Netlist → ℕ → ℕ → Type 0
IsCalledFrom nl c d = (path : List ℕ) × IsCallPath nl c path d

-- a device stands in the circuit or below it
abbrev pub HasDevices : Netlist → ℕ → Type 0
HasDevices nl c = (path : List ℕ) × (i : ℕ) × (row : DeviceRow) × HasDevice nl c path i row

-- an earlier circuit has the name of circuit c
abbrev pub HasNameBefore : Netlist → ℕ → Type 0
HasNameBefore nl c = (b : ℕ) × (x : Circuit) × (y : Circuit)
    × (b < c) × IsCircuit nl b x × IsCircuit nl c y × (x.name ≡ y.name)

-- two nets of circuit c have one name
abbrev pub HasNetTwins : Netlist → ℕ → Type 0
HasNetTwins nl c = (x : Circuit) × (a : ℕ) × (b : ℕ) × (name : List ℕ) × IsCircuit nl c x
    × (a < b) × (slice_get x.nets a ≡ Some name) × (slice_get x.nets b ≡ Some name)

-- a pin, a device or a call of circuit c is on a net that the circuit hasn't
abbrev pub HasBadTerminal : Netlist → ℕ → Type 0
HasBadTerminal nl c = (x : Circuit) × (n : ℕ)
    × IsCircuit nl c x × IsListed n (appearances x) × (length x.nets ≤ n)

-- a call of circuit c is of no circuit
abbrev pub CallsNone : Netlist → ℕ → Type 0
CallsNone nl c = (k : ℕ) × (row : CallRow) × IsCall nl c k row × (length nl.circuits ≤ row.circuit)

-- a call of circuit c has another number of nets than the called circuit has pins
abbrev pub HasOtherCount : Netlist → ℕ → Type 0
HasOtherCount nl c = (k : ℕ) × (row : CallRow) × (d : Circuit)
    × IsCall nl c k row × IsCircuit nl row.circuit d × (length row.nets ≢ length d.pins)

-- circuit c calls itself, at once or through others
abbrev pub IsInCycle : Netlist → ℕ → Type 0
IsInCycle nl c = (k : ℕ) × (ks : List ℕ) × IsCallPath nl c (k ∷ ks) c

-- what can be wrong, in the order in which it is looked for
pub data NetlistFault : Type 0 where
  NameClash : NetlistFault
  BadTerminal : NetlistFault
  NoSuchCircuit : NetlistFault
  PinCount : NetlistFault
  CircuitCycle : NetlistFault

-- circuit c shows the fault
abbrev pub ShowsFault : Netlist → NetlistFault → ℕ → Type 0
ShowsFault nl NameClash c = HasNameBefore nl c ⊎ HasNetTwins nl c
ShowsFault nl BadTerminal c = HasBadTerminal nl c
ShowsFault nl NoSuchCircuit c = CallsNone nl c
ShowsFault nl PinCount c = HasOtherCount nl c
ShowsFault nl CircuitCycle c = IsInCycle nl c

-- the place of a fault in that order
abbrev pub fault_rank : NetlistFault → ℕ
fault_rank NameClash = 0
fault_rank BadTerminal = 1
fault_rank NoSuchCircuit = 2
fault_rank PinCount = 3
fault_rank CircuitCycle = 4

-- the netlist's first fault, and the first circuit that shows it
pub record IsFirstFault (nl : Netlist) (fault : NetlistFault) (c : ℕ) : Type 0 where
  pub shown : ShowsFault nl fault c
  pub first : (b : ℕ) → b < c → ShowsFault nl fault b → ⊥
  pub before : (other : NetlistFault) (b : ℕ) → fault_rank other < fault_rank fault
      → ShowsFault nl other b → ⊥

-- pins and the nets of calls and devices are nets of their circuit
pub record AreNetsThere (nl : Netlist) : Type 0 where
  pub pins : (c i n : ℕ) → IsPin nl c i n → HasNet nl c n
  pub calls : (c k p n : ℕ) (row : CallRow) → IsCall nl c k row → slice_get row.nets p ≡ Some n
      → HasNet nl c n
  pub devices : (c j n : ℕ) (row : DeviceRow) → IsDevice nl c j row
      → IsListed n (terminal_nets row) → HasNet nl c n

-- each call is of a circuit, with as many nets as that has pins
abbrev pub AreCallsFitting : Netlist → Type 0
AreCallsFitting nl = (c k : ℕ) (row : CallRow) → IsCall nl c k row
    → (d : Circuit) × IsCircuit nl row.circuit d × (length row.nets ≡ length d.pins)

-- names of circuits, and of the nets of each circuit, are apart; nets are there; calls fit; no
-- circuit calls itself
pub record IsSoundNetlist (nl : Netlist) : Type 0 where
  pub names : (b c : ℕ) (x y : Circuit) → IsCircuit nl b x → IsCircuit nl c y → x.name ≡ y.name
      → b ≡ c
  pub net_names : (c a b : ℕ) (x : Circuit) (name : List ℕ) → IsCircuit nl c x
      → slice_get x.nets a ≡ Some name → slice_get x.nets b ≡ Some name → a ≡ b
  pub nets : AreNetsThere nl
  pub calls : AreCallsFitting nl
  pub no_cycle : (c : ℕ) → IsInCycle nl c → ⊥

-- what flattening asks: nets are there, calls fit and go down in height, and pin i is net i
pub record IsGood (nl : Netlist) (height : ℕ → ℕ) : Type 0 where
  pub within : AreNetsThere nl
  pub called : AreCallsFitting nl
  pub lower : (c k : ℕ) (row : CallRow) → IsCall nl c k row → height row.circuit < height c
  pub pins : (c i n : ℕ) → IsPin nl c i n → n ≡ i

-- a netlist is sound exactly where no circuit shows a fault
abbrev pub SoundLaw : Type 0
SoundLaw = (nl : Netlist)
    → IsSoundNetlist nl ↔ ((fault : NetlistFault) (c : ℕ) → ShowsFault nl fault c → ⊥)

-- a netlist has one first fault at most
abbrev pub OneFaultLaw : Type 0
OneFaultLaw = (nl : Netlist) (f g : NetlistFault) (c d : ℕ)
    → IsFirstFault nl f c → IsFirstFault nl g d → (f ≡ g) × (c ≡ d)

-- the calls of a sound netlist go down in some height
abbrev pub HeightLaw : Type 0
HeightLaw = (nl : Netlist) → IsSoundNetlist nl
    → (height : ℕ → ℕ) × ((c k : ℕ) (row : CallRow) → IsCall nl c k row
    → height row.circuit < height c)

-- in normal form it is good with that height
abbrev pub GoodLaw : Type 0
GoodLaw = (nl : Netlist) → IsSoundNetlist nl → IsNormalNetlist nl
    → (height : ℕ → ℕ) × IsGood nl height

-- a good netlist shows no fault but equal names
abbrev pub GoodFaultLaw : Type 0
GoodFaultLaw = (nl : Netlist) (height : ℕ → ℕ) (fault : NetlistFault) (c : ℕ) → IsGood nl height
    → fault ≢ NameClash → ShowsFault nl fault c → ⊥

-- in normal form nets are there
abbrev pub NormalNetsLaw : Type 0
NormalNetsLaw = (nl : Netlist) → IsNormalNetlist nl → AreNetsThere nl
