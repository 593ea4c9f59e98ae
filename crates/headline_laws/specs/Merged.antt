-- A reported match of merged netlists: the good gates of the flat layout, each class of alike ones
-- as one, correspond one to one to the devices of the flattened schematic, merged alike.
use Rattle.std.specs.Prelude.{ℕ, List}
use Rattle.align_laws.specs.Cut.{Alignment}
use Rattle.align_laws.specs.Partners.{IsAlignedPair}
use Rattle.composed_laws.specs.Answered.{AreAnswers, AreMatches, Asked}
use Rattle.composed_laws.specs.Matched.{AreDevicesMatched, AreNetsMatched}
use Rattle.flat_layout.specs.Circuits.{IsCircuitCell}
use Rattle.flat_layout.specs.Expanded.{AreTablesRight, CircuitTables}
use Rattle.flat_layout.specs.Gates.{Rule}
use Rattle.flat_layout.specs.Layout.{Design}
use Rattle.flat_layout.specs.Nets.{Tables}
use Rattle.flat_layout.specs.Regions.{Wiring}
use Rattle.headline_laws.specs.FlatNetlist.{flat_netlist, IsFlatGateOf, IsFlatRegionOf}
use Rattle.match_laws.specs.Answer.{Answer}
use Rattle.match_laws.specs.Circuits.{Pairing}
use Rattle.merge_laws.specs.Grouped.{merged_netlist, IsMadeOf}
use Rattle.merge_laws.specs.Merge.{merged}
use Rattle.plain_netlist.specs.Flats.{Corresponds, expanded, Reversed, Through}
use Rattle.plain_netlist.specs.Netlist.{Netlist}

-- as in the law on unmerged netlists, but that the merged netlist of the layout's circuits and the
-- merged schematic are aligned on their pairs
abbrev pub MergedMatchLaw : Type 0
MergedMatchLaw = (d : Design) (w : Wiring) (t : Tables) (g : CircuitTables) (layout : Netlist)
    (rules : List Rule) (unit : ℕ) (level : ℕ → ℕ)
    → AreTablesRight d w t g layout rules unit level → (top : ℕ) → IsCircuitCell g.cells top d.top
    → (schematic : Netlist) (right_top : ℕ) (same : List (List ℕ × List ℕ)) (left right : Netlist)
    (v c : Alignment)
    → (p : IsAlignedPair (merged_netlist layout) (merged_netlist schematic) top right_top same left
    right v c)
    → (asked : Asked) (answers : ℕ → Answer) (pairings : ℕ → Pairing)
    → AreAnswers left right asked answers → AreMatches left answers pairings
    → Corresponds (merged (flat_netlist d w rules unit)) (merged (expanded schematic right_top))
    (Through (Reversed (IsFlatGateOf d w g layout top rules))
    (Through (Reversed (IsMadeOf layout top))
    (Through (AreDevicesMatched (merged_netlist layout) left right (merged_netlist schematic) v c
    p.left_aligned p.right_aligned pairings top right_top)
    (IsMadeOf schematic right_top))))
    (Through (Reversed (IsFlatRegionOf d w t g layout top))
    (AreNetsMatched (merged_netlist layout) left right (merged_netlist schematic) v c p.left_aligned
    p.right_aligned pairings top right_top))
