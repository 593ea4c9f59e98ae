-- Flattening: calls replaced by the flat circuits that they call, with all nets kept; and that this
-- leaves the expansion as it is.
use Rattle.std.specs.Prelude.{◌≡◌, ◌⊎◌, ◌↔◌, ◌<◌, ℕ, List, [], ◌∷◌, ◌++◌, map, Some, slice_get}
use Rattle.plain_netlist.specs.Sound.{AreNetsThere}
use Rattle.plain_netlist.specs.Devices.{row_over, IsRowOver}
use Rattle.plain_netlist.specs.Netlist.{DeviceRow, CallRow, Netlist, IsCall, IsDevice}
use Rattle.plain_netlist.specs.Netlist.{IsPin, HasNet, IsSlot, Slot, slot, InOneNet, HasDevice}

-- where the nets, devices and calls of the called circuit stand in the caller
pub record Placing : Type 0 where
  pub net : ℕ → ℕ
  pub device : ℕ → ℕ
  pub call : ℕ → ℕ

-- a call stays, with a number of its own, or its circuit goes into the caller
pub data CallFate : Type 0 where
  Stays : ℕ → CallFate
  Goes : Placing → CallFate

-- of each circuit: what becomes of its calls, and where the nets, devices and calls of the flat
-- circuit are from
pub record Maps : Type 0 where
  pub target : ℕ → ℕ → ℕ
  pub fate : ℕ → ℕ → CallFate
  pub onward : ℕ → ℕ → ℕ
  pub way : ℕ → ℕ → List ℕ
  pub net_from : ℕ → ℕ → Slot
  pub device_from : ℕ → ℕ → Slot

-- a call with its nets put through a map
abbrev pub call_through : (ℕ → ℕ) → CallRow → CallRow
call_through f r = record { circuit = r.circuit; nets = map f r.nets }

-- the same slot, one call deeper
abbrev pub below : ℕ → Slot → Slot
below k s = slot (k ∷ s.path) s.net

-- where a slot of the called circuit stands in the caller
abbrev pub inside : (Placing → ℕ → ℕ) → Placing → List ℕ → ℕ → Slot
inside pick i [] n = slot [] (pick i n)
inside pick i (e ∷ es) n = slot (i.call e ∷ es) n

-- what a call does to a slot below it
abbrev pub step : (Placing → ℕ → ℕ) → CallFate → Slot → Slot
step pick (Stays e) s = below e s
step pick (Goes i) s = inside pick i s.path s.net

-- the net or device of the flat netlist that one of the given netlist stands as
abbrev pub image : Maps → (Placing → ℕ → ℕ) → ℕ → List ℕ → ℕ → Slot
image v pick c [] n = slot [] n
image v pick c (k ∷ ks) n = step pick (v.fate c k) (image v pick (v.target c k) ks n)

abbrev pub placed_net : Placing → ℕ → ℕ
placed_net i n = i.net n

abbrev pub placed_device : Placing → ℕ → ℕ
placed_device i n = i.device n

abbrev pub net_image : Maps → ℕ → Slot → Slot
net_image v c s = image v placed_net c s.path s.net

abbrev pub device_image : Maps → ℕ → List ℕ → ℕ → Slot
device_image v c path j = image v placed_device c path j

-- a slot seen from the start of a longer path
abbrev pub beyond : List ℕ → Slot → Slot
beyond ks s = slot (ks ++ s.path) s.net

-- the net or device of the given netlist that one of the flat netlist is from
abbrev pub origin : Maps → (ℕ → ℕ → Slot) → ℕ → List ℕ → ℕ → Slot
origin v from c [] n = from c n
origin v from c (e ∷ es) n = beyond (v.way c e) (origin v from (v.onward c e) es n)

-- the flat circuit d stands in the flat circuit c for call k
pub record IsPlacedInside (g f : Netlist) (v : Maps) (c k : ℕ) (row : CallRow)
    (i : Placing) : Type 0 where
  pub pin : (p outer inner : ℕ) → slice_get row.nets p ≡ Some outer → IsPin g row.circuit p inner
      → i.net inner ≡ outer
  pub net : (n : ℕ) → HasNet f row.circuit n
      → ((p : ℕ) × (outer : ℕ) × (slice_get row.nets p ≡ Some outer) × IsPin g row.circuit p n)
      ⊎ (v.net_from c (i.net n) ≡ below k (v.net_from row.circuit n))
  pub within : (n : ℕ) → HasNet f row.circuit n → HasNet f c (i.net n)
  pub device : (j : ℕ) (own : DeviceRow) → IsDevice f row.circuit j own
      → IsDevice f c (i.device j) (row_over i.net own)
      × (v.device_from c (i.device j) ≡ below k (v.device_from row.circuit j))
  pub call : (e : ℕ) (own : CallRow) → IsCall f row.circuit e own
      → IsCall f c (i.call e) (call_through i.net own)
      × (v.way c (i.call e) ≡ k ∷ v.way row.circuit e)

-- the flat circuit c: the given one's own pins, nets, devices and calls that stay, then what the
-- flattened calls bring, and nothing else
pub record IsInlined (g f : Netlist) (v : Maps) (c : ℕ) : Type 0 where
  pub pins : (i n : ℕ) → IsPin g c i n ↔ IsPin f c i n
  pub target : (k : ℕ) (row : CallRow) → IsCall g c k row → v.target c k ≡ row.circuit
  pub onward : (e : ℕ) (row : CallRow) → IsCall f c e row → v.onward c e ≡ row.circuit
  pub net : (n : ℕ) → HasNet g c n → HasNet f c n × (v.net_from c n ≡ slot [] n)
  pub device : (j : ℕ) (row : DeviceRow) → IsDevice g c j row
      → IsDevice f c j row × (v.device_from c j ≡ slot [] j)
  pub stays : (k e : ℕ) (row : CallRow) → IsCall g c k row → v.fate c k ≡ Stays e
      → IsCall f c e row × (v.way c e ≡ k ∷ [])
  pub goes : (k : ℕ) (i : Placing) (row : CallRow) → IsCall g c k row → v.fate c k ≡ Goes i
      → IsPlacedInside g f v c k row i
  pub devices : (j : ℕ) (row : DeviceRow) → IsDevice f c j row → IsDevice g c j row
      ⊎ ((k : ℕ) × (call : CallRow) × (i : Placing) × (m : ℕ) × (own : DeviceRow)
      × IsCall g c k call × (v.fate c k ≡ Goes i) × IsDevice f call.circuit m own
      × (i.device m ≡ j))
  pub calls : (e : ℕ) (row : CallRow) → IsCall f c e row
      → ((k : ℕ) × IsCall g c k row × (v.fate c k ≡ Stays e))
      ⊎ ((k : ℕ) × (call : CallRow) × (i : Placing) × (m : ℕ) × (own : CallRow) × IsCall g c k call
      × (v.fate c k ≡ Goes i) × IsCall f call.circuit m own × (i.call m ≡ e))

-- each circuit is flattened so, calls go down in height, and nets are nets
pub record AreInlined (g f : Netlist) (v : Maps) (height : ℕ → ℕ) : Type 0 where
  pub each : (c : ℕ) → IsInlined g f v c
  pub lower : (c k : ℕ) (row : CallRow) → IsCall g c k row → height row.circuit < height c
  pub within : AreNetsThere g
  pub flat_within : AreNetsThere f

-- both netlists expand to the same: slots are on one net exactly where their images are, pins are
-- the same, and devices go one to one and onto, with class, sizes and terminals
pub record IsSameExpansion (g f : Netlist) (v : Maps) (c : ℕ) : Type 0 where
  pub nets : (a b : Slot) → IsSlot g c a.path a.net → IsSlot g c b.path b.net
      → InOneNet g c a b ↔ InOneNet f c (net_image v c a) (net_image v c b)
  pub pins : (i n : ℕ) → IsPin g c i n ↔ IsPin f c i n
  pub device : (path : List ℕ) (j : ℕ) (row : DeviceRow) → HasDevice g c path j row
      → (other : DeviceRow)
      × HasDevice f c (device_image v c path j).path (device_image v c path j).net other
      × IsRowOver (λ a b. net_image v c (slot path a)
      ≡ slot (device_image v c path j).path b) row other
  pub back : (es : List ℕ) (j : ℕ) (row : DeviceRow) → HasDevice f c es j row
      → (s : Slot) × (own : DeviceRow) × HasDevice g c s.path s.net own
      × (device_image v c s.path s.net ≡ slot es j)
  pub one : (p q : List ℕ) (i j : ℕ) (a b : DeviceRow) → HasDevice g c p i a → HasDevice g c q j b
      → device_image v c p i ≡ device_image v c q j → slot p i ≡ slot q j

-- flattening leaves the expansion as it is
abbrev pub FlatLaw : Type 0
FlatLaw = (g f : Netlist) (v : Maps) (height : ℕ → ℕ) → AreInlined g f v height → (c : ℕ)
    → IsSameExpansion g f v c
