-- A circuit's devices in groups of alike ones, and the circuit in which each group is one.
use Rattle.std.specs.Prelude.{◌≡◌, ◌+◌, ◌^◌, ℕ, suc, Bool, true, false, ◌==◌, ◌&&◌, ◌||◌, cond}
use Rattle.std.specs.Prelude.{nat_lt, List, [], ◌∷◌, ◌++◌, map, Some, slice_get, bytes_eq}
use Rattle.std.specs.List.{list_any}
use Rattle.align_laws.specs.Partners.{AreSides}
use Rattle.plain_netlist.specs.Netlist.{DeviceRow, Circuit, Netlist, IsCircuit, Slot, slot}
use Rattle.plain_netlist.specs.Netlist.{IsCall, CallRow}
use Rattle.plain_netlist.specs.Kinds.{same_device_kind}
use Rattle.plain_netlist.specs.Devices.{Ends, NoEnds, Both, exchanged}
use Rattle.plain_netlist.specs.Flats.{Corresponds, expanded}
use Rattle.plain_netlist.specs.FlatLaws.{ExpandAlike, Passes}
use Rattle.plain_netlist.specs.Lists.{IsListed}
use Rattle.plain_netlist.specs.Normal.{IsNormalNetlist}
use Rattle.plain_netlist.specs.Sound.{IsGood, IsSoundNetlist}
use Rattle.merge_laws.specs.Merge.{may_merge_row, with_added, width_of, with_width, AreAlike}
use Rattle.merge_laws.specs.Merge.{merged}

-- the ends of the one are those of the other, in this order
abbrev pub same_ends : Ends ℕ → Ends ℕ → Bool
same_ends NoEnds NoEnds = true
same_ends (Both a b) (Both c d) = a == c && b == d
same_ends NoEnds (Both c d) = false
same_ends (Both a b) NoEnds = false

-- two devices of a circuit may become one, and are the same but for the width
abbrev pub is_alike : DeviceRow → DeviceRow → Bool
is_alike a b = may_merge_row a && same_device_kind a.kind b.kind && bytes_eq a.class b.class
    && bytes_eq (with_added a.sizes 0) (with_added b.sizes 0) && bytes_eq a.others b.others
    && (same_ends a.ends b.ends || same_ends a.ends (exchanged b.ends))

-- a device with its place in its circuit
pub record Placed : Type 0 where
  pub place : ℕ
  pub row : DeviceRow

-- alike devices, the first before the others
pub record Group : Type 0 where
  pub first : Placed
  pub others : List Placed

abbrev pub members : Group → List Placed
members g = g.first ∷ g.others

-- a device joins the group of those alike to it, or begins one behind all others
abbrev pub with_device : List Group → Placed → List Group
with_device [] d = record { first = d; others = [] } ∷ []
with_device (g ∷ gs) d = cond (is_alike g.first.row d.row)
    (record { first = g.first; others = g.others ++ d ∷ [] } ∷ gs) (g ∷ with_device gs d)

-- the groups of these devices, the first of which has this place, with those of earlier ones
abbrev pub grouped : List Group → ℕ → List DeviceRow → List Group
grouped gs place [] = gs
grouped gs place (row ∷ rows) =
    grouped (with_device gs (record { place = place; row = row })) (suc place) rows

abbrev pub groups : List DeviceRow → List Group
groups rows = grouped [] 0 rows

abbrev pub sum_width : List Placed → ℕ
sum_width [] = 0
sum_width (d ∷ ds) = width_of d.row + sum_width ds

-- the device that a group becomes: its first, with the sum of the widths
abbrev pub merged_row : Group → DeviceRow
merged_row g = with_width g.first.row (sum_width (members g))

abbrev pub merged_circuit : Circuit → Circuit
merged_circuit c = record {
  name = c.name;
  nets = c.nets;
  pins = c.pins;
  devices = map merged_row (groups c.devices);
  calls = c.calls;
}

abbrev pub merged_netlist : Netlist → Netlist
merged_netlist nl = record { circuits = map merged_circuit nl.circuits }

-- a device that may become one with others is wider than 10^27 femtometres
abbrev pub is_wide : DeviceRow → Bool
is_wide d = may_merge_row d && nat_lt (10 ^ 27) (width_of d)

-- one of the devices that the groups become is
abbrev pub are_wide : List Group → Bool
are_wide gs = list_any is_wide (map merged_row gs)

-- one of the merged circuit is
abbrev pub is_too_wide : Circuit → Bool
is_too_wide c = are_wide (groups c.devices)

-- no two devices of a circuit are alike
abbrev pub AreUnlike : Circuit → Type 0
AreUnlike c = (i j : ℕ) (a b : DeviceRow) → slice_get c.devices i ≡ Some a
    → slice_get c.devices j ≡ Some b → is_alike a b ≡ true → i ≡ j

-- the group that becomes device j of the circuit at the end of a path of calls
abbrev pub IsGroup : Netlist → ℕ → List ℕ → ℕ → Group → Type 0
IsGroup nl t [] j g =
    (c : Circuit) × IsCircuit nl t c × (slice_get (groups c.devices) j ≡ Some g)
IsGroup nl t (k ∷ ks) j g = (row : CallRow) × IsCall nl t k row × IsGroup nl row.circuit ks j g

-- a device of the merged netlist, expanded, and one of those that it was made of
abbrev pub IsMadeOf : Netlist → ℕ → Slot → Slot → Type 0
IsMadeOf nl t a x = (g : Group) × (d : Placed) × IsGroup nl t a.path a.net g
    × IsListed d (members g) × (x ≡ slot a.path d.place)

-- a circuit's own test of alike devices is that of rows over its nets
abbrev pub AlikeLaw : Type 0
AlikeLaw = (a b : DeviceRow) → is_alike a b ≡ true
    → AreAlike (λ m n. m ≡ n) a b

abbrev pub AlikeBackLaw : Type 0
AlikeBackLaw = (a b : DeviceRow) → AreAlike (λ m n. m ≡ n) a b
    → is_alike a b ≡ true

-- no two alike devices are left
abbrev pub UnlikeLaw : Type 0
UnlikeLaw = (nl : Netlist) (t : ℕ) (c : Circuit) → IsCircuit (merged_netlist nl) t c → AreUnlike c

-- a sound netlist stays sound
abbrev pub SoundMergedLaw : Type 0
SoundMergedLaw = (nl : Netlist) → IsSoundNetlist nl → IsSoundNetlist (merged_netlist nl)

-- a good netlist stays good, with its heights
abbrev pub GoodMergedLaw : Type 0
GoodMergedLaw = (nl : Netlist) (height : ℕ → ℕ) → IsGood nl height
    → IsGood (merged_netlist nl) height

-- two netlists whose circuits are compared by position stay so
abbrev pub SidesMergedLaw : Type 0
SidesMergedLaw = (left right : Netlist) → AreSides left right
    → AreSides (merged_netlist left) (merged_netlist right)

-- a netlist in normal form stays so
abbrev pub NormalMergedLaw : Type 0
NormalMergedLaw = (nl : Netlist) → IsNormalNetlist nl → IsNormalNetlist (merged_netlist nl)

-- what a merged circuit expands to is, when merged, what the given one expands to, when merged, by
-- the same nets
abbrev pub MergedExpandsLaw : Type 0
MergedExpandsLaw = (nl : Netlist) (t : ℕ)
    → Corresponds (merged (expanded (merged_netlist nl) t)) (merged (expanded nl t))
    (IsMadeOf nl t) (λ a x. a ≡ x)

-- circuits that expand to the same do so when merged, by the same devices and nets
abbrev pub MergedSameLaw : Type 0
MergedSameLaw = (l r : Netlist) (t u : ℕ) (device net : Slot → Slot → Bool)
    → ExpandAlike l t r u device net
    → Corresponds (merged (expanded l t)) (merged (expanded r u)) (Passes device) (Passes net)
