-- What a phase of pins is made from.
use Rattle.std.specs.Prelude.{◌≡◌, ℕ, List, map}
use Rattle.cell_graph.specs.Linked.{Linked, plain}
use Rattle.deep_tables.specs.Gates.{AreRightGates}
use Rattle.deep_tables.specs.Nets.{AreRightNets}
use Rattle.flat_layout.specs.GateTables.{GateEntry}
use Rattle.rule_layers.specs.Meaning.{device_rules, globals_of, labels_of, wiring_of}
use Rattle.rule_text.specs.Seen.{rules_seen}
use Rattle.rule_text.specs.declared.rules.RuleSet.{RuleSet}
use Rattle.net_phase.specs.Below.{BelowSeen, tables_seen}
use Rattle.net_phase.specs.Reading.{nets_of}
use Rattle.net_phase.specs.Wired.{with_nets}
use Rattle.zone_phase.specs.Graph.{AreParentJobs}
use Rattle.pin_phase.specs.Lines.{label, names_of}
use Rattle.pin_phase.specs.Links.{AreLinks, lists_of}
use Rattle.pin_phase.specs.declared.phase.PinPhase.TheInside.{Inside}

-- the layout, the rules and the jobs
pub record PinJobs : Type 0 where
  pub design : Linked
  pub rules : RuleSet
  pub graph : List (List ℕ)

abbrev pub jobs_seen : Inside → PinJobs
jobs_seen a =
    record { design = a.wired.now.design; rules = a.wired.now.rules; graph = a.graph }

-- what a job reads
abbrev pub read_by : Inside → BelowSeen
read_by a = with_nets a.wired.now (nets_of a.nets.items)

pub record IsPinPhase (a : Inside) : Type 0 where
  pub lines : map label a.lines.items ≡ labels_of (rules_seen a.wired.now.rules)
  pub globals : names_of a.globals.items ≡ globals_of (rules_seen a.wired.now.rules)
  pub nets : AreRightNets (plain a.wired.now.design) (wiring_of (rules_seen a.wired.now.rules))
      (tables_seen (read_by a))
  pub gates : ℕ → List GateEntry
  pub right : AreRightGates (plain a.wired.now.design)
      (wiring_of (rules_seen a.wired.now.rules)) (tables_seen (read_by a))
      (device_rules (rules_seen a.wired.now.rules)) gates
  pub links : AreLinks a.wired.now.design (tables_seen (read_by a)) gates
      (lists_of a.links.items)
  pub graph : AreParentJobs a.wired.now.design a.graph
