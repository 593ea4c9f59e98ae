-- An aligned netlist: flattened, cut and in normal form; that it keeps what each circuit expands
-- to, and that there is one.
use Rattle.std.specs.Prelude.{◌≡◌, ◌⊎◌, ◌↔◌, ◌<◌, ℕ, Bool, true, false, not, List, [], ◌∷◌, ◌++◌}
use Rattle.std.specs.Prelude.{length, slice_get}
use Rattle.plain_netlist.specs.Netlist.{DeviceRow, Circuit, Netlist, IsCircuit, Slot, slot}
use Rattle.plain_netlist.specs.Netlist.{InOneNet, HasDevice, IsTerminal, IsOnPin}
use Rattle.plain_netlist.specs.Normal.{IsNormalCircuit, IsNormalNetlist}
use Rattle.plain_netlist.specs.Sound.{HasDevices, HasNetTwins, IsCalledFrom, IsGood, IsSoundNetlist}
use Rattle.plain_netlist.specs.Sound.{NetlistFault, NameClash, ShowsFault}
use Rattle.plain_netlist.specs.Devices.{IsRowOver}
use Rattle.plain_netlist.specs.Flats.{Corresponds, expanded}
use Rattle.align_laws.specs.Flat.{net_image, device_image}
use Rattle.align_laws.specs.Lists.{FlatCircuit, given_of, maps_of, AreFlat}
use Rattle.align_laws.specs.Cut.{Alignment, cut, cut_path, cut_slot, AreCut}

-- o is g with the circuits of which `goes` is true flattened into their callers, and what is left
-- cut down to the kept circuits and held nets, in normal form
pub record IsAlignedBy (goes : ℕ → Bool) (g o : Netlist) (w : Alignment) : Type 0 where
  pub height : ℕ → ℕ
  pub good : IsGood g height
  pub flat : Netlist
  pub flats : ℕ → FlatCircuit
  pub flattened : AreFlat g flat goes flats
  pub cut_down : AreCut flat o w
  pub normal : (c : ℕ) → w.kept c ≡ true → IsNormalCircuit (cut flat w c)
  pub named : (c m : ℕ) → w.kept c ≡ true → m < length (w.names c)
      → slice_get (w.names c) m ≡ slice_get (given_of flat c).nets (w.old c m)

-- o is the aligned netlist of g: flattened are the circuits that aren't kept and have a device in
-- or below them
pub record IsAligned (g o : Netlist) (w : Alignment) : Type 0 where
  pub goes : ℕ → Bool
  pub going : (c : ℕ) → (goes c ≡ true) ↔ ((w.kept c ≡ false) × HasDevices g c)
  pub by : IsAlignedBy goes g o w

-- each circuit of the aligned netlist is a kept one, and no two kept ones have one number
pub record HasOnlyKept (o : Netlist) (w : Alignment) : Type 0 where
  pub from : (i : ℕ) (x : Circuit) → IsCircuit o i x
      → (c : ℕ) × (w.kept c ≡ true) × (w.number c ≡ i)
  pub apart : (a b : ℕ) → w.kept a ≡ true → w.kept b ≡ true → w.number a ≡ w.number b → a ≡ b

-- where a net of what circuit c expands to stands in the aligned netlist
abbrev pub aligned_net : (g o : Netlist) (w : Alignment) → IsAligned g o w → ℕ → Slot → Slot
aligned_net g o w a c s =
    let t : Slot = net_image (maps_of g a.goes a.by.flats) c s in
    cut_slot a.by.flat w c t.path t.net

-- and a device
abbrev pub aligned_device : (g o : Netlist) (w : Alignment) → IsAligned g o w → ℕ → Slot → Slot
aligned_device g o w a c s =
    let t : Slot = device_image (maps_of g a.goes a.by.flats) c s.path s.net in
    slot (cut_path a.by.flat w c t.path) t.net

-- circuit c of g and circuit d of o expand to the same by these maps: devices one to one and onto,
-- of one class and size, each terminal on the image of its net; terminals are on one net, or on a
-- pin, exactly where their images are
pub record IsKeptExpansion (g o : Netlist) (c d : ℕ) (net device : Slot → Slot) : Type 0 where
  pub each : (path : List ℕ) (j : ℕ) (row : DeviceRow) → HasDevice g c path j row
      → (other : DeviceRow)
      × HasDevice o d (device (slot path j)).path (device (slot path j)).net other
      × IsRowOver (λ a b. net (slot path a) ≡ slot (device (slot path j)).path b) row other
  pub back : (es : List ℕ) (j : ℕ) (other : DeviceRow) → HasDevice o d es j other
      → (s : Slot) × (row : DeviceRow) × HasDevice g c s.path s.net row × (device s ≡ slot es j)
  pub one : (s t : Slot) (a b : DeviceRow) → HasDevice g c s.path s.net a
      → HasDevice g c t.path t.net b → device s ≡ device t → s ≡ t
  pub nets : (a b : Slot) → IsTerminal g c a → IsTerminal g c b
      → InOneNet g c a b ↔ InOneNet o d (net a) (net b)
  pub pins : (a : Slot) → IsTerminal g c a → IsOnPin g c a ↔ IsOnPin o d (net a)

-- each kept circuit expands to the same devices and nets as before
abbrev pub AlignedLaw : Type 0
AlignedLaw = (g o : Netlist) (w : Alignment) (a : IsAligned g o w) (c : ℕ) → w.kept c ≡ true
    → IsKeptExpansion g o c (w.number c) (aligned_net g o w a c) (aligned_device g o w a c)

-- x is where the device s of circuit c stands in the aligned netlist
abbrev pub IsDeviceAligned : (g o : Netlist) (w : Alignment) → IsAligned g o w → ℕ → Slot → Slot
    → Type 0
IsDeviceAligned g o w a c s x =
    ((row : DeviceRow) × HasDevice g c s.path s.net row) × (aligned_device g o w a c s ≡ x)

-- x is where the net s, on which a device terminal is, stands there
abbrev pub IsNetAligned : (g o : Netlist) (w : Alignment) → IsAligned g o w → ℕ → Slot → Slot
    → Type 0
IsNetAligned g o w a c s x = IsTerminal g c s × (aligned_net g o w a c s ≡ x)

-- so they correspond
abbrev pub AlignedCorrespondsLaw : Type 0
AlignedCorrespondsLaw = (g o : Netlist) (w : Alignment) (a : IsAligned g o w) (c : ℕ)
    → w.kept c ≡ true → Corresponds (expanded g c) (expanded o (w.number c))
    (IsDeviceAligned g o w a c) (IsNetAligned g o w a c)

-- what is kept, and under which numbers, determines the circuits of the aligned netlist
abbrev pub OneAlignedLaw : Type 0
OneAlignedLaw = (g o p : Netlist) (a b : Alignment) → IsAligned g o a → IsAligned g p b
    → ((c : ℕ) → a.kept c ≡ b.kept c) → ((c : ℕ) → a.kept c ≡ true → a.number c ≡ b.number c)
    → (c : ℕ) → a.kept c ≡ true
    → (x y : Circuit) → IsCircuit o (a.number c) x → IsCircuit p (a.number c) y → x ≡ y

-- each kept circuit is the top, or is called from it and has a device in or below it
abbrev pub AreKeptFrom : Netlist → ℕ → (ℕ → Bool) → Type 0
AreKeptFrom g top kept = (c : ℕ) → kept c ≡ true
    → (c ≡ top) ⊎ (IsCalledFrom g top c × HasDevices g c)

-- then flattening all circuits that aren't kept gives the same: those without a device are dropped
-- anyway
abbrev pub AllFlattenedLaw : Type 0
AllFlattenedLaw = (g o p : Netlist) (a b : Alignment) (top : ℕ) → IsAligned g o a
    → IsAlignedBy (λ c. not (b.kept c)) g p b
    → ((c : ℕ) → a.kept c ≡ b.kept c) → ((c : ℕ) → a.kept c ≡ true → a.number c ≡ b.number c)
    → AreKeptFrom g top a.kept
    → (c : ℕ) → a.kept c ≡ true
    → (x y : Circuit) → IsCircuit o (a.number c) x → IsCircuit p (a.number c) y → x ≡ y

-- an aligned netlist of kept circuits alone is good and in normal form
abbrev pub AlignedSoundLaw : Type 0
AlignedSoundLaw = (g o : Netlist) (w : Alignment) → IsAligned g o w → HasOnlyKept o w
    → IsNormalNetlist o × ((height : ℕ → ℕ) × IsGood o height)

-- where the given netlist is sound, it shows no fault but equal names of two nets of one circuit
abbrev pub AlignedFaultLaw : Type 0
AlignedFaultLaw = (g o : Netlist) (w : Alignment) → IsAligned g o w → HasOnlyKept o w
    → IsSoundNetlist g → (fault : NetlistFault) (c : ℕ) → ShowsFault o fault c
    → (fault ≡ NameClash) × HasNetTwins o c

-- no further circuit may stand behind: then not each is a kept one
abbrev pub NoFurtherLaw : Type 0
NoFurtherLaw = (g o : Netlist) (w : Alignment) (x : Circuit) → IsAligned g o w
    → HasOnlyKept (record { circuits = o.circuits ++ x ∷ [] }) w → ⊥
