-- Devices whose names stand one behind another.
use Rattle.std.specs.Prelude.{◌≡◌, ◌+◌, ◌<◌, ◌≤◌, ℕ, List, [], ◌∷◌, map, length}
use Rattle.std.specs.List.{slice_range}
use Rattle.fixed_num.specs.declared.femto.Femto.{Femto}
use Rattle.plain_netlist.specs.declared.kinds.DeviceKind.{DeviceKind}
use Rattle.plain_netlist.specs.declared.kinds.DeviceKind.TheVariants.{Mos4, ResistorWithBulk, Diode}
use Rattle.plain_netlist.specs.Kinds.{terminal_count}
use Rattle.plain_netlist.specs.Devices.{Ends, NoEnds, Both}
use Rattle.spice_rows.specs.Rows.{DeviceCard}
use Rattle.spice_rows.specs.declared.device.Names.{Names}
use Rattle.spice_rows.specs.declared.device.DeviceCard.TheInside.{Inside}

-- a device of these nets, those behind its last terminal aside
abbrev pub ends_with : {N : Type 0} → DeviceKind → N → N → Ends N
ends_with Mos4 first third = Both third first
ends_with ResistorWithBulk first third = Both third first
ends_with Diode first third = NoEnds

abbrev pub others_with : {N : Type 0} → DeviceKind → N → N → N → List N
others_with Mos4 first second fourth = second ∷ fourth ∷ []
others_with ResistorWithBulk first second fourth = second ∷ []
others_with Diode first second fourth = first ∷ second ∷ []

-- the device: each name from where it begins up to the next one
abbrev pub device_in : Inside → DeviceCard
device_in k =
    let bytes = k.names.bytes.items in
    let first = slice_range bytes 0 k.names.second in
    let second = slice_range bytes k.names.second k.names.third in
    let third = slice_range bytes k.names.third k.names.fourth in
    let fourth = slice_range bytes k.names.fourth k.names.class in record {
      kind = k.kind;
      class = slice_range bytes k.names.class (length bytes);
      sizes = map (λ (f : Femto). f.0) k.sizes;
      ends = ends_with k.kind first third;
      others = others_with k.kind first second fourth;
    }

-- these names stand one behind another
pub record AreBehind (n : Names) (first second third fourth class : List ℕ) : Type 0 where
  pub second_at : n.second ≡ length first
  pub third_at : n.third ≡ n.second + length second
  pub fourth_at : n.fourth ≡ n.third + length third
  pub class_at : n.class ≡ n.fourth + length fourth
  pub bytes_are : length n.bytes.items ≡ n.class + length class
  pub first_is : slice_range n.bytes.items 0 n.second ≡ first
  pub second_is : slice_range n.bytes.items n.second n.third ≡ second
  pub third_is : slice_range n.bytes.items n.third n.fourth ≡ third
  pub fourth_is : slice_range n.bytes.items n.fourth n.class ≡ fourth
  pub class_is : slice_range n.bytes.items n.class (length n.bytes.items) ≡ class

-- two sizes, and no name of a terminal or of the class is empty
pub record IsKept (k : Inside) : Type 0 where
  pub sizes : length k.sizes ≡ 2
  pub first : 0 < k.names.second
  pub second : k.names.second < k.names.third
  pub third : k.names.third ≤ k.names.fourth
  pub third_some : 2 < terminal_count k.kind → k.names.third < k.names.fourth
  pub fourth : k.names.fourth ≤ k.names.class
  pub fourth_some : 3 < terminal_count k.kind → k.names.fourth < k.names.class
  pub class : k.names.class < length k.names.bytes.items
