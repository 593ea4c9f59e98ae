-- What is known of the squares that cells leave at a ready device rule.
use Rattle.std.proofs.Common.{◌≡◌}
use Rattle.cell_graph.specs.Linked.{IsSound}
use Rattle.gate_phase.specs.Close.{HasOpen, HasOpenBelow}
use Rattle.gate_phase.specs.Site.{IsReadyDevice, rules_at}
use Rattle.gate_phase.specs.declared.site.DeviceSite.{DeviceSite}
use Rattle.gate_phase.proofs.Numbering.{some_rule}
use Rattle.gate_phase.proofs.Seeding.{open_at, open_below}

-- in the cell itself
pub open_here : (at : DeviceSite) → IsSound at.site.design.now → IsReadyDevice at → HasOpen at.site.zones.now at.site.cell at.number
open_here at sound ready =
    let u = some_rule (rules_at at.site) at.number ready.known in
    let e = open_at at.site.design.now (rules_at at.site) at.site.zones.now at.site.cell at.number u.0 sound ready.site.zones ready.site.reached u.1 in (e.zone, e.is)

-- and in the cells that it places
pub open_there : (at : DeviceSite) → IsSound at.site.design.now → IsReadyDevice at → HasOpenBelow at.site.design.now at.site.zones.now at.site.cell at.number
open_there at sound ready =
    let u = some_rule (rules_at at.site) at.number ready.known in
    open_below at.site.design.now (rules_at at.site) at.site.zones.now at.site.cell at.number u.0 sound ready.site.zones ready.site.reached u.1
