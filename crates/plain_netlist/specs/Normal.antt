-- Normal form of a circuit: first the pins, then nets as devices and then calls first name them.
use Rattle.std.specs.Prelude.{◌≡◌, ◌⊎◌, ◌<◌, ℕ, suc, List, [], ◌∷◌, ◌++◌, length, flat_map, Some}
use Rattle.std.specs.Prelude.{slice_get}
use Rattle.plain_netlist.specs.Devices.{terminal_nets}
use Rattle.plain_netlist.specs.Netlist.{DeviceRow, CallRow, Circuit, Netlist, IsCircuit}

-- the nets of a circuit in the order in which its pins, devices and calls name them
abbrev pub appearances : Circuit → List ℕ
appearances c =
    c.pins ++ (flat_map (λ (d : DeviceRow). terminal_nets d) c.devices
    ++ flat_map (λ (r : CallRow). r.nets) c.calls)

-- each number is one that was seen before or the next new one, and there are so many in all
abbrev pub AreNumbered : ℕ → ℕ → List ℕ → Type 0
AreNumbered total next [] = next ≡ total
AreNumbered total next (x ∷ xs) =
    ((x < next) × AreNumbered total next xs) ⊎ ((x ≡ next) × AreNumbered total (suc next) xs)

-- pin i is net i, and nets are numbered as they first appear
pub record IsNormalCircuit (c : Circuit) : Type 0 where
  pub pins : (i n : ℕ) → slice_get c.pins i ≡ Some n → n ≡ i
  pub numbered : AreNumbered (length c.nets) 0 (appearances c)

-- each circuit is in normal form
abbrev pub IsNormalNetlist : Netlist → Type 0
IsNormalNetlist nl = (c : ℕ) (x : Circuit) → IsCircuit nl c x → IsNormalCircuit x
