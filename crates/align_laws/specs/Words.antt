-- What a flat circuit is in words of paths through circuits that go; and that its lists and numbers
-- are determined.
use Rattle.std.specs.Prelude.{◌≡◌, ◌⊎◌, ◌↔◌, ◌<◌, ℕ, Bool, true, List, [], ◌∷◌, map, Some}
use Rattle.std.specs.Prelude.{slice_get}
use Rattle.plain_netlist.specs.Sound.{IsGood}
use Rattle.plain_netlist.specs.Chains.{Reaches}
use Rattle.plain_netlist.specs.Netlist.{DeviceRow, CallRow, Circuit, Netlist, IsCircuit, IsCall}
use Rattle.plain_netlist.specs.Netlist.{IsDevice, HasNet, IsSlot, IsJoin, Slot, HasDevice, slot}
use Rattle.align_laws.specs.Flat.{Placing, Stays, Goes, Maps, net_image, AreInlined}
use Rattle.align_laws.specs.Lists.{FlatCircuit, inlined, AreFlat}
use Rattle.align_laws.specs.Cut.{Alignment, AreHeld}
use Rattle.plain_netlist.specs.Normal.{AreNumbered}

-- a path of calls of circuits that go
abbrev pub IsInside : Netlist → Maps → ℕ → List ℕ → Type 0
IsInside g v c [] = Unit {0}
IsInside g v c (k ∷ ks) = (row : CallRow) × IsCall g c k row × (i : Placing) × (v.fate c k ≡ Goes i)
    × IsInside g v row.circuit ks

-- the devices of a flat circuit are the pairs (path of calls through circuits that go, device of
-- its end), each once
pub record AreDevicesInside (g f : Netlist) (v : Maps) (c : ℕ) : Type 0 where
  pub each : (j : ℕ) (row : DeviceRow) → IsDevice f c j row
      → IsInside g v c (v.device_from c j).path
      × ((own : DeviceRow) × HasDevice g c (v.device_from c j).path (v.device_from c j).net own)
  pub found : (path : List ℕ) (j : ℕ) (own : DeviceRow) → IsInside g v c path
      → HasDevice g c path j own
      → (m : ℕ) × (row : DeviceRow) × IsDevice f c m row × (v.device_from c m ≡ slot path j)
  pub once : (i j : ℕ) (a b : DeviceRow) → IsDevice f c i a → IsDevice f c j b
      → v.device_from c i ≡ v.device_from c j → i ≡ j

-- the flat circuits have these devices
abbrev pub InsideLaw : Type 0
InsideLaw = (g f : Netlist) (v : Maps) (height : ℕ → ℕ) → AreInlined g f v height → (c : ℕ)
    → AreDevicesInside g f v c

-- there is one list of flat circuits
abbrev pub OneFlatLaw : Type 0
OneFlatLaw = (g : Netlist) (goes : ℕ → Bool) (a b : ℕ → FlatCircuit) (height : ℕ → ℕ)
    → IsGood g height
    → ((c : ℕ) (given : Circuit) → IsCircuit g c given → a c ≡ inlined goes a given)
    → ((c : ℕ) (given : Circuit) → IsCircuit g c given → b c ≡ inlined goes b given)
    → (c : ℕ) (given : Circuit) → IsCircuit g c given → a c ≡ b c

-- so normal form fixes the numbers: where no two old nets that appear get one number
abbrev pub OneNumberLaw : Type 0
OneNumberLaw = (P : ℕ → Bool) (f g : ℕ → ℕ)
    → ((x y : ℕ) → P x ≡ true → P y ≡ true → f x ≡ f y → x ≡ y)
    → ((x y : ℕ) → P x ≡ true → P y ≡ true → g x ≡ g y → x ≡ y)
    → (xs : List ℕ) (m n : ℕ) → ((i x : ℕ) → slice_get xs i ≡ Some x → P x ≡ true)
    → AreNumbered m 0 (map f xs) → AreNumbered n 0 (map g xs)
    → (m ≡ n) × ((i x : ℕ) → slice_get xs i ≡ Some x → f x ≡ g x)

-- a call of a circuit that goes joins the two
abbrev pub IsInnerLink : Netlist → Maps → ℕ → Slot → Slot → Type 0
IsInnerLink g v c a b = (IsJoin g c a b × IsInside g v c b.path)
    ⊎ (IsJoin g c b a × IsInside g v c a.path)

-- the nets are the classes of nets at the ends of such paths, as such joins tie them
pub record AreNetsInside (g f : Netlist) (v : Maps) (c : ℕ) : Type 0 where
  pub each : (a : Slot) → IsInside g v c a.path → IsSlot g c a.path a.net
      → (n : ℕ) × (net_image v c a ≡ slot [] n) × HasNet f c n
  pub joined : (a b : Slot) → IsInside g v c a.path → IsInside g v c b.path
      → IsSlot g c a.path a.net → IsSlot g c b.path b.net
      → Reaches (IsInnerLink g v c) a b ↔ (net_image v c a ≡ net_image v c b)

-- the flat circuits have these nets
abbrev pub InnerNetLaw : Type 0
InnerNetLaw = (g f : Netlist) (v : Maps) (height : ℕ → ℕ) → AreInlined g f v height → (c : ℕ)
    → AreNetsInside g f v c

-- what is held is fixed by what is kept
abbrev pub OneHeldLaw : Type 0
OneHeldLaw = (f : Netlist) (a b : Alignment) (height : ℕ → ℕ)
    → ((c k : ℕ) (row : CallRow) → IsCall f c k row → height row.circuit < height c) → AreHeld f a
    → AreHeld f b → ((c : ℕ) → a.kept c ≡ b.kept c)
    → (c n : ℕ) → a.kept c ≡ true → (a.held c n ≡ true) ↔ (b.held c n ≡ true)

-- a call of a flat circuit goes down too
abbrev pub LowerLaw : Type 0
LowerLaw = (g f : Netlist) (v : Maps) (height : ℕ → ℕ) → AreInlined g f v height
    → (c e : ℕ) (row : CallRow) → IsCall f c e row → height row.circuit < height c

-- what dropping asks of the flat netlist
abbrev pub FlatGoodLaw : Type 0
FlatGoodLaw = (g f : Netlist) (goes : ℕ → Bool) (flats : ℕ → FlatCircuit) (height : ℕ → ℕ)
    → IsGood g height → AreFlat g f goes flats → IsGood f height

-- a path of calls of circuits that go, followed by a call that stays
abbrev pub IsWay : Netlist → Maps → ℕ → List ℕ → ℕ → Type 0
IsWay g v c [] t = ⊥
IsWay g v c (k ∷ ks) t =
    ((ks ≡ [])
    × ((row : CallRow) × (e : ℕ) × IsCall g c k row × (v.fate c k ≡ Stays e)
    × (row.circuit ≡ t)))
    ⊎ ((row : CallRow) × IsCall g c k row × (i : Placing) × (v.fate c k ≡ Goes i)
    × IsWay g v row.circuit ks t)

-- the calls of a flat circuit are these paths, each once
pub record AreCallsInside (g f : Netlist) (v : Maps) (c : ℕ) : Type 0 where
  pub each : (e : ℕ) (row : CallRow) → IsCall f c e row → IsWay g v c (v.way c e) row.circuit
  pub found : (path : List ℕ) (t : ℕ) → IsWay g v c path t
      → (e : ℕ) × (row : CallRow) × IsCall f c e row × (v.way c e ≡ path) × (row.circuit ≡ t)
  pub once : (d e : ℕ) (a b : CallRow) → IsCall f c d a → IsCall f c e b → v.way c d ≡ v.way c e
      → d ≡ e

-- the flat circuits have these calls
abbrev pub InnerCallLaw : Type 0
InnerCallLaw = (g f : Netlist) (v : Maps) (height : ℕ → ℕ) → AreInlined g f v height → (c : ℕ)
    → AreCallsInside g f v c
