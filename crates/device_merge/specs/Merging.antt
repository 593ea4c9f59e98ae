-- A circuit's transistors so far, each group of alike ones as one.
use Rattle.std.specs.Prelude.{◌≡◌, ◌+◌, ◌^◌, ◌&&◌, ℕ, zero, suc, Bool, true, false, nat_lt, List}
use Rattle.std.specs.Prelude.{[], ◌∷◌, map, Option, Some, None}
use Rattle.std.specs.Global.{Vec}
use Rattle.std.specs.List.{list_any}
use Rattle.plain_netlist.specs.Netlist.{DeviceRow}
use Rattle.merge_laws.specs.Grouped.{Group, Placed, groups, merged_row}
use Rattle.merge_laws.specs.Merge.{may_merge_row, width_of, with_width}
use Rattle.net_model.specs.Rows.{plain_device}
use Rattle.net_model.specs.declared.netlist.DeviceRow.{DeviceRow as Held}
use Rattle.device_merge.specs.Keys.{AreKeys}
use Rattle.device_merge.specs.declared.groups.Merging.{Merging}

abbrev pub placed : ℕ → DeviceRow → Placed
placed place row = record { place = place; row = row }

-- the row with another's width beside its own
abbrev pub wider : ℕ → DeviceRow → DeviceRow
wider w r = with_width r (width_of r + w)

-- so the row at this place
abbrev pub widened : ℕ → ℕ → List DeviceRow → List DeviceRow
widened place w [] = []
widened zero w (r ∷ rs) = wider w r ∷ rs
widened (suc place) w (r ∷ rs) = r ∷ widened place w rs

abbrev pub width_at : ℕ → List DeviceRow → ℕ
width_at place [] = 0
width_at zero (r ∷ rs) = width_of r
width_at (suc place) (r ∷ rs) = width_at place rs

-- a device that may become one with others is wider than this, in femtometres
abbrev pub is_wider : ℕ → DeviceRow → Bool
is_wider most d = may_merge_row d && nat_lt most (width_of d)

-- one of the devices that the groups become is
abbrev pub are_wider : ℕ → List Group → Bool
are_wider most gs = list_any (is_wider most) (map merged_row gs)

-- one device for each of these groups, its key among the keys, and none wider than may be
pub record IsMerging (m : Merging) (gs : List Group) : Type 0 where
  pub rows : map plain_device m.rows.items ≡ map merged_row gs
  pub keys : AreKeys 0 m.keys gs
  pub narrow : are_wider m.most gs ≡ false

-- each group of these transistors as one, or none where one of them is wider than this
abbrev pub IsMergedBy : ℕ → List DeviceRow → Option (Vec Held) → Type 0
IsMergedBy most all None = are_wider most (groups all) ≡ true
IsMergedBy most all (Some rows) = (map plain_device rows.items ≡ map merged_row (groups all))
    × (are_wider most (groups all) ≡ false)

-- each group of these transistors as one, or none where one of them is too wide
abbrev pub IsMerged : List DeviceRow → Option (Vec Held) → Type 0
IsMerged = IsMergedBy (10 ^ 27)
