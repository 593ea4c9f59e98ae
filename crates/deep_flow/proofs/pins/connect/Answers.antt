use Rattle.std.proofs.Common.{sym}
use Rattle.cell_graph.specs.Linked.{Linked, plain}
use Rattle.rule_text.specs.Seen.{rules_seen}
use Rattle.rule_text.specs.declared.rules.RuleSet.{RuleSet}
use Rattle.deep_tables.specs.Gates.{AreGates}
use Rattle.deep_tables.specs.Layers.{AreLayers}
use Rattle.deep_tables.specs.Nets.{AreNets}
use Rattle.deep_tables.specs.Pins.{ArePins}
use Rattle.deep_tables.specs.Zones.{AreZones}
use Rattle.deep_flow.proofs.Jobs.{along}
use Rattle.deep_flow.proofs.pins.connect.Goals as goal

pub find_gates-requires-clause-zones : goal.find_gates-requires-clause-zones
find_gates-requires-clause-zones g c κs within =
    let e = c.in_ok-wired.ensures in
    along (λ (x : Linked) (y : RuleSet). AreZones (plain x) (rules_seen y) c.args.zones) _ _ _ _ (sym e.design) (sym e.rules) c.requires.zones

pub find_gates-requires-clause-layers : goal.find_gates-requires-clause-layers
find_gates-requires-clause-layers g c κs within =
    let e = c.in_ok-wired.ensures in
    along (λ (x : Linked) (y : RuleSet). AreLayers (plain x) (rules_seen y) c.args.layers.now) _ _ _ _ (sym e.design) (sym e.rules) c.requires.layers

pub returns-clause-nets : goal.returns-clause-nets
returns-clause-nets g c =
    let e = c.in_ok-wired.ensures in
    along (λ (x : Linked) (y : RuleSet). AreNets (plain x) (rules_seen y) c.in_ok-nets.nets) _ _ _ _ e.design e.rules c.in_ok-nets.ensures

pub returns-clause-gates : goal.returns-clause-gates
returns-clause-gates g c =
    let e = c.in_ok-wired.ensures in
    along (λ (x : Linked) (y : RuleSet). AreGates (plain x) (rules_seen y) c.in_ok-gates.gates) _ _ _ _ e.design e.rules c.in_ok-gates.ensures

pub returns-clause-pins : goal.returns-clause-pins
returns-clause-pins g c =
    let e = c.in_ok-wired.ensures in
    along (λ (x : Linked) (y : RuleSet). ArePins (plain x) (rules_seen y) c.in_ok-pins.pins) _ _ _ _ e.design e.rules c.in_ok-pins.ensures
