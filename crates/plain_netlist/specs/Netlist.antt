-- Netlists as circuits that call each other, and what a circuit expands to.
use Rattle.std.specs.Prelude.{◌≡◌, ◌⊎◌, ◌<◌, ℕ, List, [], ◌∷◌, ◌++◌, length, Some, slice_get}
use Rattle.plain_netlist.specs.Lists.{IsListed}
use Rattle.plain_netlist.specs.Chains.{Reaches}
use Rattle.plain_netlist.specs.Devices.{Row, terminal_nets}

-- a device over the nets of its circuit
abbrev pub DeviceRow : Type 0
DeviceRow = Row ℕ

-- a call of a circuit, with the caller's net at each of its pins
pub record CallRow : Type 0 where
  pub circuit : ℕ
  pub nets : List ℕ

-- a circuit: its name, the names of its nets, the nets that are pins, its devices and its calls
pub record Circuit : Type 0 where
  pub name : List ℕ
  pub nets : List (List ℕ)
  pub pins : List ℕ
  pub devices : List DeviceRow
  pub calls : List CallRow

pub record Netlist : Type 0 where
  pub circuits : List Circuit

-- circuit t of the netlist is c
abbrev pub IsCircuit : Netlist → ℕ → Circuit → Type 0
IsCircuit nl t c = slice_get nl.circuits t ≡ Some c

-- call k of circuit t is this row
abbrev pub IsCall : Netlist → ℕ → ℕ → CallRow → Type 0
IsCall nl t k row = (c : Circuit) × IsCircuit nl t c × (slice_get c.calls k ≡ Some row)

-- device i of circuit t is this row
abbrev pub IsDevice : Netlist → ℕ → ℕ → DeviceRow → Type 0
IsDevice nl t i row = (c : Circuit) × IsCircuit nl t c × (slice_get c.devices i ≡ Some row)

-- pin i of circuit t is net n
abbrev pub IsPin : Netlist → ℕ → ℕ → ℕ → Type 0
IsPin nl t i n = (c : Circuit) × IsCircuit nl t c × (slice_get c.pins i ≡ Some n)

-- circuit t has a net n
abbrev pub HasNet : Netlist → ℕ → ℕ → Type 0
HasNet nl t n = (c : Circuit) × IsCircuit nl t c × (n < length c.nets)

-- a net (or a device) of the circuit at the end of a path of calls, the outermost call first
pub record Slot : Type 0 where
  pub path : List ℕ
  pub net : ℕ

abbrev pub slot : List ℕ → ℕ → Slot
slot path net = record { path = path; net = net }

-- call k of the circuit at the end of the path joins its net outer with the called circuit's pin
-- net inner
abbrev pub Joins : Netlist → ℕ → List ℕ → ℕ → ℕ → ℕ → Type 0
Joins nl t [] outer k inner = (row : CallRow) × IsCall nl t k row
    × (called : Circuit) × IsCircuit nl row.circuit called
    × (i : ℕ) × (slice_get row.nets i ≡ Some outer) × (slice_get called.pins i ≡ Some inner)
Joins nl t (j ∷ js) outer k inner =
    (row : CallRow) × IsCall nl t j row × Joins nl row.circuit js outer k inner

-- a call joins its net a with the pin net b, one call deeper
pub record IsJoin (nl : Netlist) (t : ℕ) (a b : Slot) : Type 0 where
  pub number : ℕ
  pub deeper : a.path ++ number ∷ [] ≡ b.path
  pub joins : Joins nl t a.path a.net number b.net

-- a join, read in either direction
abbrev pub IsEitherJoin : Netlist → ℕ → Slot → Slot → Type 0
IsEitherJoin nl t a b = IsJoin nl t a b ⊎ IsJoin nl t b a

-- two slots stand on one net of what circuit t expands to: a chain of calls joins them
abbrev pub InOneNet : Netlist → ℕ → Slot → Slot → Type 0
InOneNet nl t a b = Reaches (IsEitherJoin nl t) a b

-- device i of the circuit at the end of a path of calls: a device of what circuit t expands to
abbrev pub HasDevice : Netlist → ℕ → List ℕ → ℕ → DeviceRow → Type 0
HasDevice nl t [] i row = IsDevice nl t i row
HasDevice nl t (k ∷ ks) i row =
    (call : CallRow) × IsCall nl t k call × HasDevice nl call.circuit ks i row

-- the circuit at the end of a path of calls has a net n
abbrev pub IsSlot : Netlist → ℕ → List ℕ → ℕ → Type 0
IsSlot nl t [] n = HasNet nl t n
IsSlot nl t (k ∷ ks) n = (row : CallRow) × IsCall nl t k row × IsSlot nl row.circuit ks n

-- a device has a terminal there
pub record IsTerminal (nl : Netlist) (t : ℕ) (a : Slot) : Type 0 where
  pub device : ℕ
  pub row : DeviceRow
  pub has : HasDevice nl t a.path device row
  pub on : IsListed a.net (terminal_nets row)

-- the slot's net holds a pin of circuit t
abbrev pub IsOnPin : Netlist → ℕ → Slot → Type 0
IsOnPin nl t a = (i : ℕ) × (n : ℕ) × IsPin nl t i n × InOneNet nl t a (slot [] n)
