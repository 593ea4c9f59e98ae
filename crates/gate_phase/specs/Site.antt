-- A cell with right tables, and a device rule whose regions are looked for in it.
use Rattle.std.specs.Prelude.{◌≡◌, ◌<◌, ◌≤◌, List, Some, length, slice_get}
use Rattle.geo_base.specs.declared.shapes.Rect.{Rect}
use Rattle.flat_layout.specs.Gates.{Rule, geometry}
use Rattle.flat_layout.specs.Layout.{Design, IsReached}
use Rattle.flat_layout.specs.Regions.{Wiring}
use Rattle.cell_graph.specs.Linked.{plain}
use Rattle.rule_text.specs.Rules.{Rules}
use Rattle.rule_text.specs.Seen.{rules_seen}
use Rattle.rule_text.specs.Sound.{IsSound}
use Rattle.rule_layers.specs.Meaning.{device_rules, wiring_of}
use Rattle.deep_tables.specs.Zones.{AreZones}
use Rattle.gate_phase.specs.Devices.{devices_of}
use Rattle.gate_phase.specs.Indexes.{AreLayersOf}
use Rattle.gate_phase.specs.Own.{IsRuleReach, IsToldPart}
use Rattle.gate_phase.specs.declared.site.DeviceSite.{DeviceSite}
use Rattle.gate_phase.specs.declared.site.Site.{Site}

abbrev pub layout_at : Site → Design
layout_at site = plain site.design.now

abbrev pub rules_at : Site → Rules
rules_at site = rules_seen site.rules.now

abbrev pub wiring_at : Site → Wiring
wiring_at site = wiring_of (rules_at site)

-- a reached cell with right tables
pub record IsReadySite (site : Site) : Type 0 where
  pub rules : IsSound (rules_at site)
  pub known : site.cell < length site.design.now.cells
  pub zones : AreZones (layout_at site) (rules_at site) site.zones.now
  pub layers : AreLayersOf (layout_at site) (rules_at site) site.layers.now
  pub reached : IsReached (layout_at site) site.cell

-- the device rule of this number
abbrev pub HasRule : DeviceSite → Rule → Type 0
HasRule at u = slice_get (device_rules (rules_at at.site)) at.number ≡ Some u

-- the names are that rule's, which reaches so far
pub record IsReadyDevice (at : DeviceSite) : Type 0 where
  pub site : IsReadySite at.site
  pub known : at.number < length (device_rules (rules_at at.site))
  pub device : slice_get (devices_of (rules_at at.site)) at.number ≡ Some at.device
  pub reach : IsRuleReach (rules_at at.site) at.number at.reach
  pub most : at.reach ≤ 10000

-- what is told of a part of the regions' layer
abbrev pub IsToldAt : Site → Rule → List Rect → Type 0
IsToldAt site u part = IsToldPart (layout_at site) (geometry (wiring_at site) u) site.cell part
