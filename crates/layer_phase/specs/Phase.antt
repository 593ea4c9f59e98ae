-- What a phase of layers is made from.
use Rattle.std.specs.Prelude.{◌<◌, ◌^◌, ℕ, List, length}
use Rattle.cell_graph.specs.Linked.{Linked, plain}
use Rattle.deep_tables.specs.Frames.{HasHulls}
use Rattle.deep_tables.specs.Jobs.{AreFreeJobs}
use Rattle.deep_tables.specs.Zones.{AreZones}
use Rattle.rule_text.specs.declared.rules.RuleSet.{RuleSet}
use Rattle.rule_text.specs.Seen.{rules_seen}
use Rattle.rule_text.specs.Sound.{IsSound}
use Rattle.layer_phase.specs.Groups.{AreGroups}
use Rattle.layer_phase.specs.declared.phase.LayerPhase.TheInside.{Inside}

-- the layout, the rules and the jobs
pub record LayerJobs : Type 0 where
  pub design : Linked
  pub rules : RuleSet
  pub graph : List (List ℕ)

abbrev pub jobs_seen : Inside → LayerJobs
jobs_seen a = record { design = a.design.now; rules = a.rules.now; graph = a.graph }

pub record IsLayerPhase (a : Inside) : Type 0 where
  pub rules : IsSound (rules_seen a.rules.now)
  pub hulls : HasHulls a.design.now
  pub zones : AreZones (plain a.design.now) (rules_seen a.rules.now) a.zones.now
  pub few : length a.rules.now.names.items < 2 ^ 32
  pub groups : AreGroups a.rules.now.names.items a.groups.items
  pub graph : AreFreeJobs a.design.now a.graph
