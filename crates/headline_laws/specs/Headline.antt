-- A reported match: the good gates and the regions of the flat layout correspond one to one to the
-- devices and the nets of the flattened schematic.
use Rattle.std.specs.Prelude.{ℕ, List}
use Rattle.align_laws.specs.Cut.{Alignment}
use Rattle.align_laws.specs.Partners.{IsAlignedPair}
use Rattle.composed_laws.specs.Answered.{AreAnswers, AreMatches, Asked}
use Rattle.composed_laws.specs.Matched.{AreDevicesMatched, AreNetsMatched}
use Rattle.flat_layout.specs.Circuits.{IsCircuitCell}
use Rattle.flat_layout.specs.Expanded.{AreTablesRight, CircuitTables}
use Rattle.flat_layout.specs.Gates.{Rule}
use Rattle.flat_layout.specs.Layout.{Design}
use Rattle.flat_layout.specs.Nets.{Tables}
use Rattle.flat_layout.specs.Regions.{Wiring}
use Rattle.headline_laws.specs.FlatNetlist.{flat_netlist, IsFlatGateOf, IsFlatRegionOf}
use Rattle.match_laws.specs.Answer.{Answer}
use Rattle.match_laws.specs.Circuits.{Pairing}
use Rattle.plain_netlist.specs.Flats.{Corresponds, expanded, Reversed, Through}
use Rattle.plain_netlist.specs.Netlist.{Netlist}

-- the tables of a layout are right, with the netlist of its circuits, of which the top's is circuit
-- top; this netlist and the schematic are aligned on their pairs; every pair's answer is a match
abbrev pub MatchedLayoutLaw : Type 0
MatchedLayoutLaw = (d : Design) (w : Wiring) (t : Tables) (g : CircuitTables) (layout : Netlist)
    (rules : List Rule) (unit : ℕ) (level : ℕ → ℕ)
    → AreTablesRight d w t g layout rules unit level → (top : ℕ) → IsCircuitCell g.cells top d.top
    → (schematic : Netlist) (right_top : ℕ) (same : List (List ℕ × List ℕ)) (left right : Netlist)
    (v c : Alignment)
    → (p : IsAlignedPair layout schematic top right_top same left right v c)
    → (asked : Asked) (answers : ℕ → Answer) (pairings : ℕ → Pairing)
    → AreAnswers left right asked answers → AreMatches left answers pairings
    → Corresponds (flat_netlist d w rules unit) (expanded schematic right_top)
    (Through (Reversed (IsFlatGateOf d w g layout top rules))
    (AreDevicesMatched layout left right schematic v c p.left_aligned p.right_aligned pairings top
    right_top))
    (Through (Reversed (IsFlatRegionOf d w t g layout top))
    (AreNetsMatched layout left right schematic v c p.left_aligned p.right_aligned pairings top
    right_top))
