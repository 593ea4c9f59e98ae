-- Flat circuits as lists, made from the given circuit and the flat ones below it; each item with
-- the place that it is from.
use Rattle.std.specs.Prelude.{◌≡◌, ℕ, zero, suc, Bool, cond, List, [], ◌∷◌, ◌++◌, map, Option, Some}
use Rattle.std.specs.Prelude.{None, slice_get, decimal}
use Rattle.plain_netlist.specs.Devices.{row_over}
use Rattle.plain_netlist.specs.Sound.{IsGood}
use Rattle.plain_netlist.specs.Netlist.{DeviceRow, CallRow, Circuit, Netlist, IsCircuit, Slot, slot}
use Rattle.align_laws.specs.Flat.{Placing, Stays, Goes, Maps, below, AreInlined}
use Rattle.align_laws.specs.Flat.{call_through}

-- a net, a device, a call of a flat circuit, with the path that it is from
pub record NetAt : Type 0 where
  pub from : Slot
  pub name : List ℕ

pub record DeviceAt : Type 0 where
  pub from : Slot
  pub row : DeviceRow

pub record CallAt : Type 0 where
  pub way : List ℕ
  pub row : CallRow

pub record FlatCircuit : Type 0 where
  pub name : List ℕ
  pub nets : List NetAt
  pub pins : List ℕ
  pub devices : List DeviceAt
  pub calls : List CallAt

-- a place in a list that stands behind another
abbrev pub over : {A : Type 0} → List A → ℕ → ℕ
over [] j = j
over (x ∷ xs) j = suc (over xs j)

-- each item with its position
abbrev pub indexed : {A B : Type 0} → (ℕ → A → B) → List A → List B
indexed f [] = []
indexed f (x ∷ xs) = f 0 x ∷ indexed (λ k. f (suc k)) xs

-- one list for each item, in order; the function is given the item's position
abbrev pub pieces : {A B : Type 0} → (ℕ → A → List B) → List A → List B
pieces f [] = []
pieces f (x ∷ xs) = f 0 x ++ pieces (λ k. f (suc k)) xs

-- where place j of item i's list is in all
abbrev pub joined_place : {A B : Type 0} → (ℕ → A → List B) → List A → ℕ → ℕ → ℕ
joined_place f [] i j = j
joined_place f (x ∷ xs) zero j = j
joined_place f (x ∷ xs) (suc i) j = over (f 0 x) (joined_place (λ k. f (suc k)) xs i j)

-- a list without as many items as the other has
abbrev pub past : {A B : Type 0} → List A → List B → List B
past [] ys = ys
past (x ∷ xs) [] = []
past (x ∷ xs) (y ∷ ys) = past xs ys

-- the net of a pin, or past the pins one of its own
abbrev pub net_at_pin : List ℕ → (ℕ → ℕ) → ℕ → ℕ
net_at_pin [] far n = far n
net_at_pin (x ∷ xs) far zero = x
net_at_pin (x ∷ xs) far (suc n) = net_at_pin xs far n

-- Xk/ before the name, k the position from 1
abbrev pub net_below : ℕ → NetAt → NetAt
net_below k n = record { from = below k n.from; name = 88 ∷ (decimal (suc k) ++ 47 ∷ n.name) }

abbrev pub device_below : ℕ → (ℕ → ℕ) → DeviceAt → DeviceAt
device_below k to d = record { from = below k d.from; row = row_over to d.row }

abbrev pub call_below : ℕ → (ℕ → ℕ) → CallAt → CallAt
call_below k to r = record { way = k ∷ r.way; row = call_through to r.row }

abbrev pub own_net : ℕ → List ℕ → NetAt
own_net n name = record { from = slot [] n; name = name }

abbrev pub own_device : ℕ → DeviceRow → DeviceAt
own_device j row = record { from = slot [] j; row = row }

module _ (goes : ℕ → Bool) (flats : ℕ → FlatCircuit) where
  abbrev pub inner_nets : ℕ → CallRow → List NetAt
  inner_nets k row =
      cond (goes row.circuit) (map (net_below k) (past row.nets (flats row.circuit).nets)) []

  -- where net m behind the pins of the flat circuit that call k names stands, and net n of it
  abbrev pub far_in : Circuit → ℕ → ℕ → ℕ
  far_in c k m = over (indexed own_net c.nets) (joined_place inner_nets c.calls k m)

  abbrev pub net_in : Circuit → ℕ → CallRow → ℕ → ℕ
  net_in c k row n =
      net_at_pin row.nets (far_in c k) n

  abbrev pub inner_devices : Circuit → ℕ → CallRow → List DeviceAt
  inner_devices c k row =
      cond (goes row.circuit) (map (device_below k (net_in c k row)) (flats row.circuit).devices) []

  abbrev pub own_calls : ℕ → CallRow → List CallAt
  own_calls k row = cond (goes row.circuit) [] (record { way = k ∷ []; row = row } ∷ [])

  abbrev pub inner_calls : Circuit → ℕ → CallRow → List CallAt
  inner_calls c k row =
      cond (goes row.circuit) (map (call_below k (net_in c k row)) (flats row.circuit).calls) []

  -- the circuit's own first, then what the calls bring, in order
  abbrev pub inlined : Circuit → FlatCircuit
  inlined c = record {
    name = c.name;
    nets = indexed own_net c.nets ++ pieces inner_nets c.calls;
    pins = c.pins;
    devices = indexed own_device c.devices ++ pieces (inner_devices c) c.calls;
    calls = pieces own_calls c.calls ++ pieces (inner_calls c) c.calls;
  }

-- the flat circuit without its places
abbrev pub plain : FlatCircuit → Circuit
plain x = record {
  name = x.name;
  nets = map (λ (n : NetAt). n.name) x.nets;
  pins = x.pins;
  devices = map (λ (d : DeviceAt). d.row) x.devices;
  calls = map (λ (r : CallAt). r.row) x.calls;
}

-- the netlist f has the flat circuits of g
pub record AreFlat (g f : Netlist) (goes : ℕ → Bool) (flats : ℕ → FlatCircuit) : Type 0 where
  pub each : (c : ℕ) (given : Circuit) → IsCircuit g c given → flats c ≡ inlined goes flats given
  pub there : (c : ℕ) (given : Circuit) → IsCircuit g c given → IsCircuit f c (plain (flats c))
  pub back : (c : ℕ) (flat : Circuit) → IsCircuit f c flat → (given : Circuit) × IsCircuit g c given

-- a circuit, a call or a place by its number, and something where there is none
abbrev pub circuit_or : Option Circuit → Circuit
circuit_or (Some c) = c
circuit_or None = record { name = []; nets = []; pins = []; devices = []; calls = [] }

abbrev pub call_or : Option CallRow → CallRow
call_or (Some r) = r
call_or None = record { circuit = 0; nets = [] }

abbrev pub net_or : Option NetAt → Slot
net_or (Some n) = n.from
net_or None = slot [] 0

abbrev pub device_or : Option DeviceAt → Slot
device_or (Some n) = n.from
device_or None = slot [] 0

abbrev pub way_or : Option CallAt → List ℕ
way_or (Some r) = r.way
way_or None = []

abbrev pub onward_or : Option CallAt → ℕ
onward_or (Some r) = r.row.circuit
onward_or None = 0

abbrev pub given_of : Netlist → ℕ → Circuit
given_of g c = circuit_or (slice_get g.circuits c)

abbrev pub row_of : Netlist → ℕ → ℕ → CallRow
row_of g c k = call_or (slice_get (given_of g c).calls k)

abbrev pub placing_of : (ℕ → Bool) → (ℕ → FlatCircuit) → Circuit → ℕ → CallRow → Placing
placing_of goes flats c k row = record {
  net = net_in goes flats c k row;
  device =
      λ j. over (indexed own_device c.devices)
      (joined_place (inner_devices goes flats c) c.calls k j);
  call =
      λ e. over (pieces (own_calls goes flats) c.calls)
      (joined_place (inner_calls goes flats c) c.calls k e);
}

-- the maps that these lists are
abbrev pub maps_of : Netlist → (ℕ → Bool) → (ℕ → FlatCircuit) → Maps
maps_of g goes flats = record {
  target = λ c k. (row_of g c k).circuit;
  fate =
      λ c k. cond (goes (row_of g c k).circuit)
      (Goes (placing_of goes flats (given_of g c) k (row_of g c k)))
      (Stays (joined_place (own_calls goes flats) (given_of g c).calls k 0));
  onward = λ c e. onward_or (slice_get (flats c).calls e);
  way = λ c e. way_or (slice_get (flats c).calls e);
  net_from = λ c n. net_or (slice_get (flats c).nets n);
  device_from = λ c j. device_or (slice_get (flats c).devices j);
}

-- circuits flattened as lists are flattened
abbrev pub ListLaw : Type 0
ListLaw = (g f : Netlist) (goes : ℕ → Bool) (flats : ℕ → FlatCircuit) (height : ℕ → ℕ)
    → IsGood g height → AreFlat g f goes flats → AreInlined g f (maps_of g goes flats) height
