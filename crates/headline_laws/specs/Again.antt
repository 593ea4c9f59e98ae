-- A reported match of netlists that were merged once more after they were aligned: the good gates
-- of the flat layout, each class of alike ones as one, correspond one to one to the devices of the
-- flattened schematic, merged alike.
use Rattle.std.specs.Prelude.{ℕ, List}
use Rattle.align_laws.specs.Aligned.{IsDeviceAligned, IsNetAligned}
use Rattle.align_laws.specs.Cut.{Alignment}
use Rattle.align_laws.specs.Partners.{IsAlignedPair}
use Rattle.composed_laws.specs.Answered.{AreAnswers, AreMatches, Asked}
use Rattle.composed_laws.specs.Composed.{AreDevicesPaired, AreNetsPaired}
use Rattle.flat_layout.specs.Circuits.{IsCircuitCell}
use Rattle.flat_layout.specs.Expanded.{AreTablesRight, CircuitTables}
use Rattle.flat_layout.specs.Gates.{Rule}
use Rattle.flat_layout.specs.Layout.{Design}
use Rattle.flat_layout.specs.Nets.{Tables}
use Rattle.flat_layout.specs.Regions.{Wiring}
use Rattle.headline_laws.specs.FlatNetlist.{flat_netlist, IsFlatGateOf, IsFlatRegionOf}
use Rattle.match_laws.specs.Answer.{Answer}
use Rattle.match_laws.specs.Circuits.{Pairing}
use Rattle.merge_laws.specs.Grouped.{merged_netlist, IsMadeOf}
use Rattle.merge_laws.specs.Merge.{merged}
use Rattle.plain_netlist.specs.Flats.{Corresponds, expanded, Reversed, Through}
use Rattle.plain_netlist.specs.Netlist.{Netlist, Slot}

-- devices below circuit k of two netlists, by way of those that they become where each group of
-- alike ones of a circuit is one, and that the pairings pair
abbrev pub AreDevicesPairedAgain : Netlist → Netlist → (ℕ → Pairing) → ℕ → Slot → Slot → Type 0
AreDevicesPairedAgain left right pairings k = Through (Reversed (IsMadeOf left k))
    (Through (AreDevicesPaired (merged_netlist left) pairings k) (IsMadeOf right k))

-- as in the law on merged netlists, but that the answers are those of the aligned netlists, merged
-- once more
abbrev pub MergedAgainLaw : Type 0
MergedAgainLaw = (d : Design) (w : Wiring) (t : Tables) (g : CircuitTables) (layout : Netlist)
    (rules : List Rule) (unit : ℕ) (level : ℕ → ℕ)
    → AreTablesRight d w t g layout rules unit level → (top : ℕ) → IsCircuitCell g.cells top d.top
    → (schematic : Netlist) (right_top : ℕ) (same : List (List ℕ × List ℕ)) (left right : Netlist)
    (v c : Alignment)
    → (p : IsAlignedPair (merged_netlist layout) (merged_netlist schematic) top right_top same left
    right v c)
    → (asked : Asked) (answers : ℕ → Answer) (pairings : ℕ → Pairing)
    → AreAnswers (merged_netlist left) (merged_netlist right) asked answers
    → AreMatches (merged_netlist left) answers pairings
    → Corresponds (merged (flat_netlist d w rules unit)) (merged (expanded schematic right_top))
    (Through (Reversed (IsFlatGateOf d w g layout top rules))
    (Through (Reversed (IsMadeOf layout top))
    (Through (Through (IsDeviceAligned (merged_netlist layout) left v p.left_aligned top)
    (Through (AreDevicesPairedAgain left right pairings (v.number top))
    (Reversed (IsDeviceAligned (merged_netlist schematic) right c p.right_aligned right_top))))
    (IsMadeOf schematic right_top))))
    (Through (Reversed (IsFlatRegionOf d w t g layout top))
    (Through (IsNetAligned (merged_netlist layout) left v p.left_aligned top)
    (Through (AreNetsPaired (merged_netlist left) pairings (v.number top))
    (Reversed (IsNetAligned (merged_netlist schematic) right c p.right_aligned right_top)))))
