-- Nodes numbered by what the first round goes by.
use Rattle.std.specs.Prelude.{◌≡◌, ◌↔◌, ◌<◌, ℕ, Bool, List, [], ◌∷◌, ◌++◌, length, map, Option, Some}
use Rattle.std.specs.Prelude.{None, slice_index, slice_index_or, unwrap_or}
use Rattle.std.specs.HashMap.{get, hash_map_len}
use Rattle.plain_netlist.specs.Netlist.{DeviceRow, CallRow, Circuit}
use Rattle.match_laws.specs.Circuits.{Own as PlainOwn, OfNet, OfDevice, OfCall, OfNone}
use Rattle.match_laws.specs.Circuits.{is_pin, numbers_from, pin_name}
use Rattle.match_graph.specs.declared.kinds.Kinds.{Kinds}
use Rattle.match_graph.specs.declared.kinds.Own.{Own}
use Rattle.match_graph.specs.declared.kinds.Own.TheVariants.{Net, Device, Call}

abbrev pub plain_own : Own → PlainOwn
plain_own (Net is_pin name) = OfNet is_pin name.now
plain_own (Device kind class first second) = OfDevice kind class.now (first ∷ second ∷ [])
plain_own (Call pair) = OfCall pair

-- what the first round goes by at each net, device and call of a circuit, where these are the names
-- of its pins
abbrev pub net_own : (ℕ → List ℕ) → Circuit → ℕ → PlainOwn
net_own name c k = OfNet (is_pin c k) (name k)

abbrev pub net_owns : (ℕ → List ℕ) → Circuit → List PlainOwn
net_owns name c = map (net_own name c) (numbers_from 0 (length c.nets))

abbrev pub device_own : DeviceRow → PlainOwn
device_own d = OfDevice d.kind d.class d.sizes

abbrev pub call_own : CallRow → PlainOwn
call_own r = OfCall r.circuit

abbrev pub named_owns : (ℕ → List ℕ) → Circuit → List PlainOwn
named_owns name c = net_owns name c ++ map device_own c.devices ++ map call_own c.calls

-- and where names tell pins apart, or don't
abbrev pub circuit_owns : Bool → Circuit → List PlainOwn
circuit_owns told c = named_owns (pin_name told c) c

-- the name of each net, where the list has one
abbrev pub name_in : List (Option (List ℕ)) → ℕ → List ℕ
name_in names k = unwrap_or (slice_index_or names k None) []

-- these are the names of the pins by net
abbrev pub ArePinNames : Bool → Circuit → List (Option (List ℕ)) → Type 0
ArePinNames told c names = (k : ℕ) → k < length c.nets → name_in names k ≡ pin_name told c k

-- equal ones have one number below the count, others have others; and each of the list has its
-- number
pub record IsNumbering (owns : List PlainOwn) (number : Own → Option ℕ) (count : ℕ)
    (kinds : List ℕ) : Type 0 where
  pub long : length kinds ≡ length owns
  pub given : (i : ℕ) → i < length owns → (q : Own) → plain_own q ≡ slice_index_or owns i OfNone
      → number q ≡ Some (slice_index kinds i)
  pub made : (i : ℕ) → i < length owns → (q : Own) × (plain_own q ≡ slice_index_or owns i OfNone)
  pub low : (q : Own) (v : ℕ) → number q ≡ Some v → v < count
  pub one : (q r : Own) (v : ℕ) → number q ≡ Some v → number r ≡ Some v → plain_own q ≡ plain_own r
  pub alike : (q r : Own) → plain_own q ≡ plain_own r → number q ≡ number r

-- equal numbers exactly where the two are equal
pub record AreKindsOf (kinds : List ℕ) (owns : List PlainOwn) : Type 0 where
  pub long : length kinds ≡ length owns
  pub same : (i j : ℕ) → i < length owns → j < length owns
      → (slice_index kinds i ≡ slice_index kinds j)
      ↔ (slice_index_or owns i OfNone ≡ slice_index_or owns j OfNone)

-- each numbering of the old kinds goes on over these
abbrev pub Adds : (Own → Own → Bool) → Kinds → Kinds → List PlainOwn → Type 0
Adds same old new more = (owns : List PlainOwn)
    → IsNumbering owns (get same old.numbers) (hash_map_len old.numbers) old.of_nodes.items
    → IsNumbering (owns ++ more) (get same new.numbers) (hash_map_len new.numbers)
    new.of_nodes.items
