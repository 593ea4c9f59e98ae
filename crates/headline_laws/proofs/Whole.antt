-- The flat layout's netlist, through the layout's circuits, to the flattened schematic.
use Rattle.composed_laws.proofs.Matching.{matched_tops}
use Rattle.composed_laws.specs.Matched.{AreDevicesMatched, AreNetsMatched}
use Rattle.headline_laws.proofs.Flattened.{flat_corresponds}
use Rattle.headline_laws.specs.FlatNetlist.{flat_netlist, IsFlatGateOf, IsFlatRegionOf}
use Rattle.headline_laws.specs.Headline.{MatchedLayoutLaw}
use Rattle.plain_netlist.proofs.Alike.{reversed, through}
use Rattle.plain_netlist.specs.Flats.{expanded, Reversed}

pub matched_layout : MatchedLayoutLaw
matched_layout d w t g layout rules unit level right top is schematic right_top same left far v c p asked answers pairings are all =
    let F = flat_netlist d w rules unit in
    let E = expanded layout top in
    let S = expanded schematic right_top in
    through F E S (Reversed (IsFlatGateOf d w g layout top rules)) (Reversed (IsFlatRegionOf d w t g layout top))
    (AreDevicesMatched layout left far schematic v c p.left_aligned p.right_aligned pairings top right_top)
    (AreNetsMatched layout left far schematic v c p.left_aligned p.right_aligned pairings top right_top)
    (reversed E F (IsFlatGateOf d w g layout top rules) (IsFlatRegionOf d w t g layout top) (flat_corresponds d w t g layout rules unit level right top is))
    (matched_tops layout schematic top right_top same left far v c p asked answers pairings are all)
