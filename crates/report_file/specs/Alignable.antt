-- What is extracted from a layout and what is read of a schematic can be compared.
use Rattle.std.specs.Prelude.{ℕ, List, Option}
use Rattle.flat_layout.specs.Expanded.{AreTablesRight, CircuitTables}
use Rattle.flat_layout.specs.Gates.{Rule}
use Rattle.flat_layout.specs.Layout.{Design}
use Rattle.flat_layout.specs.Nets.{Tables}
use Rattle.flat_layout.specs.Regions.{Wiring}
use Rattle.net_align.specs.Compared.{AreCalleesFirst, IsAlignable}
use Rattle.plain_netlist.specs.Netlist.{Netlist}
use Rattle.plain_netlist.specs.Normal.{IsNormalNetlist}
use Rattle.plain_netlist.specs.Sound.{IsSoundNetlist}
use Rattle.spice_rows.specs.Sizes.{Limits}
use Rattle.spice_text.specs.Means.{Means}

-- a netlist of a layout's circuits, where it is sound
abbrev pub ExtractedAlignableLaw : Type 0
ExtractedAlignableLaw = (d : Design) (w : Wiring) (t : Tables) (g : CircuitTables) (nl : Netlist)
    (rules : List Rule) (unit : ℕ) (level : ℕ → ℕ) → AreTablesRight d w t g nl rules unit level
    → IsSoundNetlist nl → IsAlignable nl × AreCalleesFirst nl

-- a netlist that a text means, where it is sound and in normal form
abbrev pub ReadAlignableLaw : Type 0
ReadAlignableLaw = (limit : Option Limits) (bytes : List ℕ) (nl : Netlist) → Means limit bytes nl
    → IsSoundNetlist nl → IsNormalNetlist nl → IsAlignable nl
