-- Where the devices and the calls of flat circuits are from, by the spots that stand inside them.
use Rattle.std.specs.Prelude.{ℕ, ◌+◌, cond, List, [], ◌∷◌, ◌++◌, Option}
use Rattle.align_laws.specs.Lists.{given_of}
use Rattle.plain_netlist.specs.Netlist.{CallRow, DeviceRow, Netlist}
use Rattle.part_origins.specs.Inside.{PlainSpot}
use Rattle.part_origins.specs.Kept.{is_kept}
use Rattle.part_origins.specs.declared.inside.Part.{Part}

abbrev pub part : ℕ → ℕ → Part
part spot number = record { spot = spot; number = number }

-- each of these devices at a spot, the first of them being device j
abbrev pub parts_from : ℕ → ℕ → List DeviceRow → List Part
parts_from spot j [] = []
parts_from spot j (_ ∷ ds) = part spot j ∷ parts_from spot (j + 1) ds

-- those of each spot, the first of them being spot i
abbrev pub device_parts : Netlist → ℕ → List PlainSpot → List Part
device_parts g i [] = []
device_parts g i (s ∷ ss) =
    parts_from i 0 (given_of g s.circuit).devices ++ device_parts g (i + 1) ss

-- those of these calls at a spot that are of kept circuits, the first of them being call j
abbrev pub kept_from : List (Option ℕ) → ℕ → ℕ → List CallRow → List Part
kept_from numbers spot j [] = []
kept_from numbers spot j (r ∷ rs) =
    cond (is_kept numbers r.circuit) (part spot j ∷ []) [] ++ kept_from numbers spot (j + 1) rs

abbrev pub call_parts : Netlist → List (Option ℕ) → ℕ → List PlainSpot → List Part
call_parts g numbers i [] = []
call_parts g numbers i (s ∷ ss) =
    kept_from numbers i 0 (given_of g s.circuit).calls ++ call_parts g numbers (i + 1) ss
