-- A circuit with a called circuit laid into it, as the code makes it: appended behind what is
-- there.
use Rattle.std.specs.Prelude.{◌≡◌, ◌<◌, ◌≤◌, ◌+◌, ℕ, suc, Bool, cond, List, [], ◌∷◌, ◌++◌, map}
use Rattle.std.specs.Prelude.{length, drop, Option, Some, slice_get, slice_index, slice_index_or}
use Rattle.std.specs.Prelude.{false, decimal}
use Rattle.plain_netlist.specs.Kinds.{terminal_count}
use Rattle.plain_netlist.specs.Netlist.{DeviceRow, CallRow, Circuit}
use Rattle.align_laws.specs.Flat.{call_through}
use Rattle.plain_netlist.specs.Devices.{row_over}
use Rattle.align_laws.specs.Lists.{FlatCircuit, net_at_pin, inlined, plain}
use Rattle.net_model.specs.Rows.{plain_device, plain_call, plain_circuit}
use Rattle.net_model.specs.declared.netlist.Circuit.{Circuit as CircuitRow}
use Rattle.net_model.specs.declared.netlist.DeviceRow.{DeviceRow as Device}
use Rattle.net_model.specs.declared.netlist.CallRow.{CallRow as Call}

-- each entry is below n
abbrev pub AreBelow : List ℕ → ℕ → Type 0
AreBelow xs n = (i : ℕ) → i < length xs → slice_index xs i < n

-- the terminals are nets below n
abbrev pub IsRowBelow : Device → ℕ → Type 0
IsRowBelow d n = (i : ℕ) → i < terminal_count d.kind → slice_index d.nets i < n

abbrev pub AreRowsBelow : List Device → ℕ → Type 0
AreRowsBelow rows n = (i : ℕ) (d : Device) → slice_get rows i ≡ Some d → IsRowBelow d n

-- so are the nets of the calls
abbrev pub AreCallsBelow : List Call → ℕ → Type 0
AreCallsBelow rows n = (i : ℕ) (r : Call) → slice_get rows i ≡ Some r → AreBelow r.nets.items n

-- Xk/ before the name, k the position from 1
abbrev pub name_below : ℕ → List ℕ → List ℕ
name_below k name = 88 ∷ (decimal (k + 1) ++ 47 ∷ name)

-- these nets stand for the device's own
abbrev pub ArePut : (ℕ → ℕ) → Device → List ℕ → Type 0
ArePut to d nets = (k : ℕ) → k < terminal_count d.kind
    → slice_index nets k ≡ to (slice_index d.nets k)

abbrev pub device_put : (ℕ → ℕ) → Device → DeviceRow
device_put to d = row_over to (plain_device d)

abbrev pub call_put : (ℕ → ℕ) → Call → CallRow
call_put to r = call_through to (plain_call r)

-- where the nets of a circuit called with these nets stand, with so many nets before its own
abbrev pub stands : List ℕ → ℕ → ℕ → ℕ
stands pins behind n = net_at_pin pins (λ m. behind + m) n

-- circuit c with the circuit `inner` behind, for call k
abbrev pub laid : ℕ → CallRow → Circuit → Circuit → Circuit
laid k row inner c = record {
  name = c.name;
  nets = c.nets ++ map (name_below k) (drop (length row.nets) inner.nets);
  pins = c.pins;
  devices = c.devices ++ map (row_over (stands row.nets (length c.nets))) inner.devices;
  calls = c.calls ++ map (call_through (stands row.nets (length c.nets))) inner.calls;
}

-- the calls name circuits below n
abbrev pub AreCircuitsBelow : List Call → ℕ → Type 0
AreCircuitsBelow rows n = (i : ℕ) (r : Call) → slice_get rows i ≡ Some r → r.circuit < n

-- the table of those that go
abbrev pub goes_of : List Bool → ℕ → Bool
goes_of goes c = slice_index_or goes c false

-- the first n places
pub record AreStands (pins : List ℕ) (behind n : ℕ) (to : List ℕ) : Type 0 where
  pub long : length to ≡ n
  pub each : (i : ℕ) → i < n → slice_index to i ≡ stands pins behind i

-- the calls that stay
abbrev pub stayed : (ℕ → Bool) → List CallRow → List CallRow
stayed goes [] = []
stayed goes (r ∷ rs) = cond (goes r.circuit) (stayed goes rs) (r ∷ stayed goes rs)

abbrev pub own_part : (ℕ → Bool) → Circuit → Circuit
own_part goes c = record {
  name = c.name;
  nets = c.nets;
  pins = c.pins;
  devices = c.devices;
  calls = stayed goes c.calls;
}

-- one call after the other laid in, the first of them being call k
abbrev pub all_laid : (ℕ → Bool) → (ℕ → Circuit) → ℕ → List CallRow → Circuit → Circuit
all_laid goes flats k [] c = c
all_laid goes flats k (r ∷ rs) c =
    all_laid goes flats (suc k) rs (cond (goes r.circuit) (laid k r (flats r.circuit) c) c)

-- the flat circuit c, as the code makes it
abbrev pub laid_out : (ℕ → Bool) → (ℕ → Circuit) → Circuit → Circuit
laid_out goes flats c = all_laid goes flats 0 c.calls (own_part goes c)

-- the table has the flat circuit that call r names, with at least as many nets as the call, and its
-- rows on its nets
pub record IsFlatThere (flats : List (Option CircuitRow)) (f : ℕ → Circuit)
    (r : Call) : Type 0 where
  pub inner : CircuitRow
  pub there : slice_get flats r.circuit ≡ Some (Some inner)
  pub is : plain_circuit inner ≡ f r.circuit
  pub pins : length r.nets.items ≤ length inner.nets.items
  pub devices : AreRowsBelow inner.devices.items (length inner.nets.items)
  pub calls : AreCallsBelow inner.calls.items (length inner.nets.items)

-- it is the flat circuit of the lists
abbrev pub LaidLaw : Type 0
LaidLaw = (goes : ℕ → Bool) (flats : ℕ → FlatCircuit) (c : Circuit)
    → plain (inlined goes flats c) ≡ laid_out goes (λ d. plain (flats d)) c
