-- What netlists must be to be aligned, and what aligned ones are.
use Rattle.std.specs.Prelude.{◌≡◌, ◌<◌, ℕ, Bool, List, length, Option, Some, None}
use Rattle.call_order.specs.Order.{IsCallOrder}
use Rattle.plain_netlist.specs.Netlist.{CallRow, Circuit, Netlist, IsCall, IsCircuit, Slot}
use Rattle.plain_netlist.specs.Normal.{IsNormalNetlist}
use Rattle.plain_netlist.specs.Sound.{HasNetTwins, IsSoundNetlist, NetlistFault, NameClash}
use Rattle.plain_netlist.specs.Sound.{ShowsFault}
use Rattle.align_laws.specs.Aligned.{IsKeptExpansion}
use Rattle.align_laws.specs.Cut.{Alignment}
use Rattle.align_laws.specs.Partners.{AreNamesApart, AreSides, IsAlignedPair, IsPartner}
use Rattle.net_model.specs.Faults.{call_lists}
use Rattle.net_align.specs.Flattened.{AreClosed}
use Rattle.net_align.specs.Paired.{are_compared}
use Rattle.net_align.specs.Walked.{AreHolding}
use Rattle.net_align.specs.declared.below.Below.{Below}

-- sound and in normal form; no two circuits have one name, small letters being large ones
pub record IsAlignable (nl : Netlist) : Type 0 where
  pub sound : IsSoundNetlist nl
  pub normal : IsNormalNetlist nl
  pub names : AreNamesApart nl

-- each circuit stands behind those that it calls
abbrev pub AreCalleesFirst : Netlist → Type 0
AreCalleesFirst nl = (c k : ℕ) (row : CallRow) → IsCall nl c k row → row.circuit < c

-- the layout's top has no partner
abbrev pub HasNoPartner : Netlist → Netlist → ℕ → List (List ℕ × List ℕ) → Type 0
HasNoPartner layout schematic top same =
    (b : ℕ) → IsPartner layout schematic top same top b → ⊥

-- the partner of the top, if it has one
abbrev pub IsTopPartner : Netlist → Netlist → ℕ → List (List ℕ × List ℕ) → Option ℕ → Type 0
IsTopPartner layout schematic top same None = HasNoPartner layout schematic top same
IsTopPartner layout schematic top same (Some b) = IsPartner layout schematic top same top b

-- left and right are the aligned pair of a layout and a schematic, for the partner that the top has
pub record AreAligned (layout schematic : Netlist) (top : ℕ) (same : List (List ℕ × List ℕ))
    (left right : Netlist) : Type 0 where
  pub right_top : ℕ
  pub left_by : Alignment
  pub right_by : Alignment
  pub are : IsAlignedPair layout schematic top right_top same left right left_by right_by

-- a circuit of g expands to the same devices and nets as circuit k of o, and has its name
pub record HasOrigin (g o : Netlist) (k : ℕ) : Type 0 where
  pub number : ℕ
  pub given : Circuit
  pub made : Circuit
  pub is : IsCircuit g number given
  pub becomes : IsCircuit o k made
  pub name : given.name ≡ made.name
  pub net : Slot → Slot
  pub device : Slot → Slot
  pub alike : IsKeptExpansion g o number k net device

-- so has each circuit of o
abbrev pub KeepsExpansions : Netlist → Netlist → Type 0
KeepsExpansions g o = (k : ℕ) → k < length o.circuits → HasOrigin g o k

-- it shows no fault but equal names of two nets of one circuit
abbrev pub HasTwinsAtMost : Netlist → Type 0
HasTwinsAtMost nl = (fault : NetlistFault) (c : ℕ) → ShowsFault nl fault c
    → (fault ≡ NameClash) × HasNetTwins nl c

-- the circuits can be compared by position, those that are called first
pub record AreComparable (left right : Netlist) : Type 0 where
  pub count : length left.circuits ≡ length right.circuits
  pub sides : AreSides left right
  pub order : AreCalleesFirst left
  pub left_normal : IsNormalNetlist left
  pub right_normal : IsNormalNetlist right
  pub left_faults : HasTwinsAtMost left
  pub right_faults : HasTwinsAtMost right

-- the tables of what stands below a top
pub record AreTables (nl : Netlist) (b : Below) : Type 0 where
  pub order : IsCallOrder (call_lists nl) b.order.items
  pub closed : AreClosed nl b.reached.items
  pub holds : AreHolding nl b.holds.items

-- whether these circuits are compared, as the tables say
abbrev pub is_compared : ℕ → Below → Below → ℕ → ℕ → Bool
is_compared top left right =
    are_compared top left.reached.items left.holds.items right.reached.items right.holds.items
