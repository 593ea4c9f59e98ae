-- That no device is lost where each class of alike ones is one.
use Rattle.std.specs.Prelude.{◌≡◌, ℕ}
use Rattle.merge_laws.specs.Merge.{IsMergedWidth, merged, with_width}
use Rattle.plain_netlist.specs.Devices.{Row}
use Rattle.plain_netlist.specs.Flats.{Flat, expanded}
use Rattle.plain_netlist.specs.Netlist.{Netlist, Slot}
use Rattle.plain_netlist.specs.Sound.{IsGood}

-- each device has a row there: those alike to it are a finite class, with a sum of widths
abbrev pub IsWhole : {D N : Type 0} → Flat D N → Type 0
IsWhole {D} {N} F = (a : D) (r : Row N) → F.has_device a r
    → (w : ℕ) × IsMergedWidth F r w × (merged F).has_device a (with_width r w)

-- so it is of what a circuit of a good netlist expands to
abbrev pub MergedWholeLaw : Type 0
MergedWholeLaw = (nl : Netlist) (height : ℕ → ℕ) → IsGood nl height → (t : ℕ)
    → IsWhole (expanded nl t)

-- and the row is one
abbrev pub MergedOnceLaw : Type 0
MergedOnceLaw = (nl : Netlist) (t : ℕ) (a : Slot) (r s : Row Slot)
    → (merged (expanded nl t)).has_device a r → (merged (expanded nl t)).has_device a s → r ≡ s
