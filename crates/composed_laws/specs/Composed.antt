-- Matched pairs compose: where every pair matches, two netlists expand to the same.
use Rattle.std.specs.Prelude.{◌≡◌, ◌<◌, ℕ, false, List, length, Option, Some, slice_get, slice_index}
use Rattle.plain_netlist.specs.Netlist.{CallRow, Circuit, Netlist, IsCircuit, IsCall, Slot}
use Rattle.plain_netlist.specs.Sound.{AreNetsThere, AreCallsFitting}
use Rattle.plain_netlist.specs.Flats.{Corresponds, expanded}
use Rattle.match_laws.specs.Circuits.{Pairing, IsOneToOne, IsCorrespondence}
use Rattle.composed_laws.specs.Paired.{IsWholeMatch, ArePaired}

-- every pair matches: each is a correspondence, under the right pins that the pairings themselves
-- give
pub record IsMatch (left right : Netlist) (children : ℕ → Option (List ℕ)) (pairings : ℕ
    → Pairing) : Type 0 where
  pub there : (k : ℕ) (c : Circuit) → IsCircuit left k c → (d : Circuit) × IsCircuit right k d
  pub back : (k : ℕ) (d : Circuit) → IsCircuit right k d → (c : Circuit) × IsCircuit left k c
  pub each : (k : ℕ) (c d : Circuit) → IsCircuit left k c → IsCircuit right k d
      → IsCorrespondence (record { left = c; right = d; children = children; told = false })
      (pairings k)
  pub pins : (k : ℕ) (c d : Circuit) (pins : List ℕ) → IsCircuit left k c → IsCircuit right k d
      → children k ≡ Some pins → (i : ℕ) → i < length c.pins
      → slice_index (pairings k).nets (slice_index c.pins i)
      ≡ slice_index d.pins (slice_index pins i)

-- nets are there, calls fit, and the list of each called pair is one to one over the call's nets
pub record IsComparable (nl : Netlist) (children : ℕ → Option (List ℕ)) : Type 0 where
  pub within : AreNetsThere nl
  pub called : AreCallsFitting nl
  pub lists : (c k : ℕ) (row : CallRow) (pins : List ℕ) → IsCall nl c k row
      → children row.circuit ≡ Some pins → IsOneToOne pins (length row.nets) (length row.nets)

-- the pairs of nets, devices and calls that the pairings name, circuit by circuit
abbrev pub IsNetPair : Netlist → (ℕ → Pairing) → ℕ → ℕ → ℕ → Type 0
IsNetPair l m c a b = (x : Circuit) × IsCircuit l c x × (slice_get (m c).nets a ≡ Some b)

abbrev pub IsDevicePair : Netlist → (ℕ → Pairing) → ℕ → ℕ → ℕ → Type 0
IsDevicePair l m c a b = (x : Circuit) × IsCircuit l c x × (slice_get (m c).devices a ≡ Some b)

abbrev pub IsCallPair : Netlist → (ℕ → Pairing) → ℕ → ℕ → ℕ → Type 0
IsCallPair l m c a b = (x : Circuit) × IsCircuit l c x × (slice_get (m c).calls a ≡ Some b)

-- the devices, and the nets, at the ends of paths that the pairings pair
abbrev pub AreDevicesPaired : Netlist → (ℕ → Pairing) → ℕ → Slot → Slot → Type 0
AreDevicesPaired l m c a x = ArePaired l (IsDevicePair l m) (IsCallPair l m) c a x

abbrev pub AreNetsPaired : Netlist → (ℕ → Pairing) → ℕ → Slot → Slot → Type 0
AreNetsPaired l m c a x = ArePaired l (IsNetPair l m) (IsCallPair l m) c a x

-- pairs that are one to one and onto in each circuit compose to such pairs below it
abbrev pub WholeMatchLaw : Type 0
WholeMatchLaw = (left right : Netlist) (children : ℕ → Option (List ℕ)) (pairings : ℕ → Pairing)
    → IsMatch left right children pairings → IsComparable left children
    → IsComparable right children → (top : ℕ)
    → IsWholeMatch left right (IsNetPair left pairings) (IsDevicePair left pairings)
    (IsCallPair left pairings) top

-- where every pair matches, both netlists expand to the same, from each pair of circuits
abbrev pub MatchCorrespondsLaw : Type 0
MatchCorrespondsLaw =
    (left right : Netlist) (children : ℕ → Option (List ℕ)) (pairings : ℕ → Pairing)
    → IsMatch left right children pairings → IsComparable left children
    → IsComparable right children → (top : ℕ)
    → Corresponds (expanded left top) (expanded right top)
    (AreDevicesPaired left pairings top) (AreNetsPaired left pairings top)
