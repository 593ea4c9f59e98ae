-- A comparison's netlists are what origins ask for.
use Rattle.net_align.specs.Compared.{AreCalleesFirst, AreComparable, IsAlignable}
use Rattle.plain_netlist.specs.Netlist.{Netlist}
use Rattle.plain_netlist.specs.Sound.{IsGood}
use Rattle.part_origins.specs.Origins.{AreNamedApart}

-- a layout that can be aligned, each of whose circuits stands behind those that it calls
abbrev pub WrittenLaw : Type 0
WrittenLaw = (nl : Netlist) → IsAlignable nl → AreCalleesFirst nl
    → IsGood nl (λ k. k) × AreNamedApart nl

-- the left one of two that can be compared
abbrev pub LeftLaw : Type 0
LeftLaw = (left right : Netlist) → AreComparable left right → IsGood left (λ k. k)
