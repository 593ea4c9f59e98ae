-- What a phase of disturbed squares is made from.
use Rattle.std.specs.Prelude.{◌≡◌, ◌≤◌, List, ℕ, Some, length}
use Rattle.std.specs.List.{All}
use Rattle.cell_graph.specs.Linked.{Linked}
use Rattle.rect_sets.specs.Rects.{IsCanonical}
use Rattle.rule_text.specs.Rules.{Rules}
use Rattle.rule_text.specs.declared.rules.LayerRule.{LayerRule}
use Rattle.rule_text.specs.declared.rules.RuleSet.{RuleSet}
use Rattle.rule_text.specs.Seen.{rules_seen}
use Rattle.rule_text.specs.Sound.{IsSound}
use Rattle.rule_layers.specs.Formulas.{zone_margin}
use Rattle.rule_layers.specs.Reads.{AreRead}
use Rattle.zone_phase.specs.Graph.{AreParentJobs}
use Rattle.zone_phase.specs.Uses.{AreUses, lists_of}
use Rattle.zone_phase.specs.declared.phase.ZonePhase.TheInside.{Inside}
use Rattle.rule_layers.specs.Formulas.{formulas}
use Rattle.deep_tables.specs.declared.zones.CellZones.{CellZones}
use Rattle.deep_tables.specs.declared.zones.CoveredZones.{CoveredZones}
use Rattle.geo_base.specs.declared.shapes.Rect.{Rect}
use Rattle.zone_phase.specs.Lone.{AreRegionLones, device_regions}
use Rattle.zone_phase.specs.Names.{AreDeviceOpens, AreInputsKept, AreNameOpens, device_names}

-- the layout, the rules, and the jobs of each cell's parents
pub record ZoneJobs : Type 0 where
  pub design : Linked
  pub rules : RuleSet
  pub graph : List (List ℕ)

abbrev pub jobs_seen : Inside → ZoneJobs
jobs_seen a = record { design = a.design.now; rules = a.rules.now; graph = a.graph }

pub record IsZonePhase (a : Inside) : Type 0 where
  pub rules : IsSound (rules_seen a.rules.now)
  pub margin : a.margin ≡ zone_margin a.rules.now.names.items
  pub most : a.margin ≤ 20001
  pub read : AreRead a.rules.now.names.items a.rules.now.devices.items a.rules.now.more.items
      a.read.items
  pub uses : AreUses a.design.now (lists_of a.uses.items)
  pub graph : AreParentJobs a.design.now a.graph

-- what a cell leaves for the names and for the device rules, from what it leaves of input layers
pub record AreLeft (n : ℕ) (d : Linked) (cell : ℕ) (r : Rules) (read : List LayerRule)
    (inputs : List (List Rect)) (v : CellZones) : Type 0 where
  pub count : length v.layers.items ≡ length (formulas read)
  pub names : AreNameOpens n d cell (formulas read) v.layers.items
  pub kept : AreInputsKept (formulas read) inputs v.layers.items
  pub devices : AreDeviceOpens n d cell (formulas read) (device_names r) v.devices.items

-- the sets are canonical
pub record HasSets (v : CellZones) : Type 0 where
  pub layers : All IsCanonical v.layers.items
  pub devices : All IsCanonical v.devices.items

-- where the cell keeps what it covers itself: what it leaves, what lies over it on the input
-- layers, and what others may make alone
pub record AreCoveredOf (n : ℕ) (d : Linked) (cell : ℕ) (r : Rules) (read : List LayerRule)
    (zones : List (List Rect)) (v : CellZones) : Type 0 where
  pub sets : HasSets v
  pub bare : List (List Rect)
  pub left : AreLeft n d cell r read bare v
  pub covered : CoveredZones
  pub is : v.covered ≡ Some covered
  pub inputs : covered.inputs.items ≡ zones
  pub lone : AreRegionLones n d cell (device_regions (formulas read) r) covered.lone.items
  pub canonical : All IsCanonical covered.lone.items
