-- Where the devices of a circuit stand as it is compared, by those of its cell's circuit.
use Rattle.std.specs.Prelude.{◌≡◌, ℕ, false, List, [], ◌∷◌, Option, Some, None, map, slice_get}
use Rattle.device_merge.specs.Parts.{places_of}
use Rattle.merge_laws.specs.Grouped.{are_wide, groups, merged_row}
use Rattle.plain_netlist.specs.Netlist.{DeviceRow}
use Rattle.view_netlist.specs.declared.drawing.DevicePlace.{DevicePlace}

-- where the first of these devices stands, if it is drawn
abbrev pub first_place : List DevicePlace → List ℕ → Option DevicePlace
first_place all [] = None
first_place all (k ∷ ks) = slice_get all k

abbrev pub before : Option DevicePlace → List DevicePlace → List DevicePlace
before None places = []
before (Some p) places = p ∷ places

-- where the first of each list stands, up to the first that isn't drawn
abbrev pub first_places : List DevicePlace → List (List ℕ) → List DevicePlace
first_places all [] = []
first_places all (ks ∷ more) = before (first_place all ks) (first_places all more)

-- the devices are the others with each group of alike transistors as one, none of them too wide
pub record AreMerged (rows others : List DeviceRow) : Type 0 where
  pub same : rows ≡ map merged_row (groups others)
  pub narrow : are_wide (groups others) ≡ false

-- the places of devices, by those of the cell's: the same of the same devices; of merged ones that
-- of each group's first; of others none
pub data AreDevicePlaces (rows others : List DeviceRow) (all places : List DevicePlace) : Type 0
  where
    Same : rows ≡ others → places ≡ all → AreDevicePlaces rows others all places
    Merged : AreMerged rows others → places ≡ first_places all (map places_of (groups others))
        → AreDevicePlaces rows others all places
    Others : (rows ≡ others → ⊥) → (AreMerged rows others → ⊥) → places ≡ []
        → AreDevicePlaces rows others all places
