-- Origins over the record that the code has of a netlist that was aligned.
use Rattle.std.specs.Prelude.{ℕ, List, map}
use Rattle.net_model.specs.Rows.{plain_netlist}
use Rattle.part_origins.specs.Inside.{plain_inside}
use Rattle.part_origins.specs.Made.{PlainOrigins, origins_from, origins_of}
use Rattle.part_origins.specs.declared.origins.Source.{Source}
use Rattle.plain_netlist.specs.Netlist.{Circuit}

-- those of circuit c, which is this one of the aligned netlist
abbrev pub origins_in : Source → List (List ℕ) → ℕ → Circuit → PlainOrigins
origins_in s held c x =
    origins_of (plain_netlist s.written.now) (map plain_inside s.insides.now) s.numbers.now held c x

-- those of one circuit after the other, the first of them being circuit i
abbrev pub all_in : Source → List ℕ → ℕ → List (List ℕ) → List Circuit → List PlainOrigins
all_in s kept i held xs =
    origins_from (plain_netlist s.written.now) (map plain_inside s.insides.now) s.numbers.now kept i
    held xs
