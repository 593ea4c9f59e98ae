-- What alike devices have in common, as the table of groups knows them.
use Rattle.std.specs.Prelude.{◌≡◌, ℕ, suc, true, List, [], ◌∷◌, Some, None, nat_lt, if◌then◌else◌}
use Rattle.std.specs.List.{position_or_len}
use Rattle.plain_netlist.specs.Netlist.{DeviceRow}
use Rattle.merge_laws.specs.Grouped.{Group, is_alike}
use Rattle.merge_laws.specs.Merge.{may_merge_row, with_added}
use Rattle.plain_netlist.specs.Devices.{Both}
use Rattle.device_merge.specs.declared.keys.DeviceKey.{DeviceKey}

abbrev pub lower : ℕ → ℕ → ℕ
lower a b = if nat_lt a b then a else b

abbrev pub higher : ℕ → ℕ → ℕ
higher a b = if nat_lt a b then b else a

-- the key has the kept size, the ends in the order of their numbers, and the other terminals
pub record SaysTerminals (key : DeviceKey) (row : DeviceRow) : Type 0 where
  pub a : ℕ
  pub b : ℕ
  pub sizes : with_added row.sizes 0 ≡ key.kept ∷ 0 ∷ []
  pub ends : row.ends ≡ Both a b
  pub low : key.low ≡ lower a b
  pub high : key.high ≡ higher a b
  pub others : row.others ≡ key.third ∷ key.fourth ∷ []

-- the key has what alike devices have in common, or the place of one that is alike to none
pub record IsKey (key : DeviceKey) (place : ℕ) (row : DeviceRow) : Type 0 where
  pub kind : key.kind ≡ row.kind
  pub class : key.class.now ≡ row.class
  pub alone : key.alone ≡ (if may_merge_row row then None else Some place)
  pub says : may_merge_row row ≡ true → SaysTerminals key row

-- the keys of the groups, the first of which has this place
abbrev pub AreKeys : ℕ → List DeviceKey → List Group → Type 0
AreKeys place [] [] = Unit {0}
AreKeys place (key ∷ keys) (g ∷ gs) = IsKey key place g.first.row × AreKeys (suc place) keys gs
AreKeys place _ _ = ⊥

-- the place of the group of those alike to the device, or the number of groups
abbrev pub place_of : List Group → DeviceRow → ℕ
place_of gs row = position_or_len (λ (g : Group). is_alike g.first.row row) gs

-- the group of one device
abbrev pub lone : ℕ → DeviceRow → Group
lone place row = record { first = record { place = place; row = row }; others = [] }
