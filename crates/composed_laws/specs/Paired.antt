-- Netlists whose circuits are paired by position: pairs of nets, devices and calls, and what they
-- compose to.
use Rattle.std.specs.Prelude.{◌≡◌, ◌↔◌, ℕ, List, [], ◌∷◌, Some, slice_get}
use Rattle.plain_netlist.specs.Devices.{AreRowsAlike}
use Rattle.plain_netlist.specs.Netlist.{DeviceRow, CallRow, Circuit, Netlist, IsCircuit, IsCall}
use Rattle.plain_netlist.specs.Netlist.{IsDevice, IsPin, HasNet, Slot, slot, InOneNet, HasDevice}
use Rattle.plain_netlist.specs.Netlist.{IsSlot}

-- a call's image calls the paired circuit, and the net of each pin is paired with that of a paired
-- pin
abbrev pub IsImaged : Netlist → Netlist → (net call : ℕ → ℕ → ℕ → Type 0) → ℕ → ℕ → CallRow
    → Type 0
IsImaged l r net call c k row = (j : ℕ) × (other : CallRow)
    × call c k j × IsCall r c j other × (other.circuit ≡ row.circuit)
    × ((called : Circuit) (i a p : ℕ) → IsCircuit l row.circuit called
    → slice_get row.nets i ≡ Some a → slice_get called.pins i ≡ Some p
    → (image : Circuit) × (h : ℕ) × (b : ℕ) × (q : ℕ) × IsCircuit r other.circuit image
    × (slice_get other.nets h ≡ Some b) × (slice_get image.pins h ≡ Some q)
    × net c a b × net row.circuit p q)

-- the pairs of circuit c are one to one and onto, for nets, devices and calls, and pins go to pins
pub record IsPaired (l r : Netlist) (net device call : ℕ → ℕ → ℕ → Type 0) (c : ℕ) : Type 0 where
  pub net_one : (a b e : ℕ) → net c a b → net c a e → b ≡ e
  pub net_one_back : (a b e : ℕ) → net c b a → net c e a → b ≡ e
  pub device_one : (a b e : ℕ) → device c a b → device c a e → b ≡ e
  pub device_one_back : (a b e : ℕ) → device c b a → device c e a → b ≡ e
  pub call_one : (a b e : ℕ) → call c a b → call c a e → b ≡ e
  pub call_one_back : (a b e : ℕ) → call c b a → call c e a → b ≡ e
  pub nets : (a : ℕ) → HasNet l c a → (b : ℕ) × net c a b × HasNet r c b
  pub nets_back : (b : ℕ) → HasNet r c b → (a : ℕ) × net c a b × HasNet l c a
  pub pins : (i a : ℕ) → IsPin l c i a → (j : ℕ) × (b : ℕ) × net c a b × IsPin r c j b
  pub pins_back : (j b : ℕ) → IsPin r c j b → (i : ℕ) × (a : ℕ) × net c a b × IsPin l c i a
  pub calls : (k : ℕ) (row : CallRow) → IsCall l c k row → IsImaged l r net call c k row
  pub calls_back : (k : ℕ) (row : CallRow) → IsCall r c k row
      → IsImaged r l (λ n b a. net n a b) (λ n b a. call n a b) c k row
  pub devices : (i : ℕ) (row : DeviceRow) → IsDevice l c i row → (j : ℕ) × (other : DeviceRow)
      × device c i j × IsDevice r c j other × AreRowsAlike (net c) row other
  pub devices_back : (j : ℕ) (other : DeviceRow) → IsDevice r c j other
      → (i : ℕ) × (row : DeviceRow)
      × device c i j × IsDevice l c i row × AreRowsAlike (net c) row other

-- a net (or a device) below a path of calls, and its image: call by call paired, and paired at the
-- end
abbrev pub IsSlotPair : Netlist → (net call : ℕ → ℕ → ℕ → Type 0) → ℕ → List ℕ → ℕ → List ℕ → ℕ
    → Type 0
IsSlotPair l net call c [] a [] b = net c a b
IsSlotPair l net call c [] a (e ∷ es) b = ⊥
IsSlotPair l net call c (k ∷ ks) a [] b = ⊥
IsSlotPair l net call c (k ∷ ks) a (e ∷ es) b = (row : CallRow)
    × IsCall l c k row × call c k e × IsSlotPair l net call row.circuit ks a es b

-- the same of two slots
abbrev pub ArePaired : Netlist → (net call : ℕ → ℕ → ℕ → Type 0) → ℕ → Slot → Slot → Type 0
ArePaired l net call c s t = IsSlotPair l net call c s.path s.net t.path t.net

-- what the pairs compose to below circuit c: nets and devices at the ends of paths one to one and
-- onto; devices with class, sizes and terminals; nets joined exactly where their images are
pub record IsWholeMatch (l r : Netlist) (net device call : ℕ → ℕ → ℕ
    → Type 0) (c : ℕ) : Type 0 where
  pub slots : (a : Slot) → IsSlot l c a.path a.net
      → (x : Slot) × IsSlot r c x.path x.net × ArePaired l net call c a x
  pub slots_back : (x : Slot) → IsSlot r c x.path x.net
      → (a : Slot) × IsSlot l c a.path a.net × ArePaired l net call c a x
  pub slot_one : (a x y : Slot) → ArePaired l net call c a x → ArePaired l net call c a y → x ≡ y
  pub slot_one_back : (a b x : Slot) → ArePaired l net call c a x → ArePaired l net call c b x
      → a ≡ b
  pub devices : (a : Slot) (row : DeviceRow) → HasDevice l c a.path a.net row
      → (x : Slot) × (other : DeviceRow) × HasDevice r c x.path x.net other
      × ArePaired l device call c a x
      × AreRowsAlike (λ m n. ArePaired l net call c (slot a.path m) (slot x.path n)) row other
  pub devices_back : (x : Slot) (other : DeviceRow) → HasDevice r c x.path x.net other
      → (a : Slot) × (row : DeviceRow) × HasDevice l c a.path a.net row
      × ArePaired l device call c a x
      × AreRowsAlike (λ m n. ArePaired l net call c (slot a.path m) (slot x.path n)) row other
  pub device_one : (a x y : Slot) → ArePaired l device call c a x → ArePaired l device call c a y
      → x ≡ y
  pub device_one_back : (a b x : Slot) → ArePaired l device call c a x
      → ArePaired l device call c b x → a ≡ b
  pub nets : (a b x y : Slot) → ArePaired l net call c a x → ArePaired l net call c b y
      → InOneNet l c a b ↔ InOneNet r c x y
