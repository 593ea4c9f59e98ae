-- What the phases of devices read.
use Rattle.std.specs.Prelude.{◌≡◌, ◌<◌, ◌^◌, ℕ, Bool, List, length, map}
use Rattle.cell_graph.specs.Linked.{Linked, plain}
use Rattle.gate_phase.specs.Indexes.{AreLayersOf}
use Rattle.deep_tables.specs.Jobs.{AreFreeJobs}
use Rattle.deep_tables.specs.Nets.{AreRightNets}
use Rattle.deep_tables.specs.Zones.{AreZones}
use Rattle.deep_tables.specs.declared.keys.GateKey.{GateKey}
use Rattle.rule_layers.specs.Meaning.{device_rules, wiring_of}
use Rattle.rule_text.specs.Seen.{rules_seen}
use Rattle.rule_text.specs.declared.rules.RuleSet.{RuleSet}
use Rattle.net_phase.specs.Below.{tables_seen}
use Rattle.net_phase.specs.Reading.{nets_of}
use Rattle.net_phase.specs.Wired.{with_nets}
use Rattle.gate_phase.specs.Judged.{rule_grounds}
use Rattle.gate_phase.specs.Terminals.{grounds_seen}
use Rattle.gate_phase.specs.declared.work.DeviceWork.TheInside.{Inside}

-- the layout, the rules and the jobs
pub record WorkOf : Type 0 where
  pub design : Linked
  pub rules : RuleSet
  pub graph : List (List ℕ)

abbrev pub work_of : Inside → WorkOf
work_of a = record { design = a.wired.now.design; rules = a.wired.now.rules; graph = a.graph }

-- what a phase's lists are defined by: those of transistors, or with the further devices
abbrev pub key_of : WorkOf → Bool → GateKey
key_of w further = record {
  design = record { marker = record {}; value = w.design };
  rules = record { marker = record {}; value = w.rules };
  further = record { marker = record {}; value = further };
}

pub record IsDeviceWork (a : Inside) : Type 0 where
  pub few : length (device_rules (rules_seen a.wired.now.rules)) < 2 ^ 32
  pub zones : AreZones (plain a.wired.now.design) (rules_seen a.wired.now.rules) a.zones.now
  pub layers : AreLayersOf (plain a.wired.now.design) (rules_seen a.wired.now.rules) a.layers
  pub grounds : map grounds_seen a.grounds.items ≡ rule_grounds (rules_seen a.wired.now.rules)
  pub nets : AreRightNets (plain a.wired.now.design) (wiring_of (rules_seen a.wired.now.rules))
      (tables_seen (with_nets a.wired.now (nets_of a.nets.items)))
  pub graph : AreFreeJobs a.wired.now.design a.graph
