use Rattle.std.proofs.Common.{◌≡◌, ◌∙◌, List, Option, ap, sym, subst}
use Rattle.std.specs.Borrow.{Bor}
use Rattle.cell_graph.specs.Linked.{Linked, plain}
use Rattle.deep_tables.specs.Nets.{AreRightNets}
use Rattle.deep_tables.specs.Zones.{AreZones}
use Rattle.deep_tables.specs.declared.nets.CellNets.{CellNets}
use Rattle.flat_layout.specs.Layout.{IsReached}
use Rattle.gate_phase.proofs.Locals.{reached_cell}
use Rattle.gate_phase.proofs.Results.{if_ok}
use Rattle.gate_phase.proofs.work.DeviceWork.gates_of.Goals as goal
use Rattle.gate_phase.specs.Indexes.{AreLayersOf}
use Rattle.gate_phase.specs.Judged.{GoOn, rule_grounds}
use Rattle.gate_phase.specs.Work.{WorkOf}
use Rattle.net_phase.specs.Below.{BelowSeen, tables_seen, wiring_seen}
use Rattle.net_phase.specs.Reading.{nets_of}
use Rattle.net_phase.specs.Wired.{with_nets}
use Rattle.rule_layers.specs.Meaning.{wiring_of}
use Rattle.rule_text.specs.Seen.{rules_seen}
use Rattle.rule_text.specs.Sound.{IsSound}
use Rattle.rule_text.specs.declared.rules.RuleSet.{RuleSet}

pub cell_gates-requires-clause-ready : goal.cell_gates-requires-clause-ready
cell_gates-requires-clause-ready c =
    let a = c.self.inside in
    let design = c.design-design.ensures ∙ ap (λ (z : WorkOf). z.design) c.self.view_is in
    let reached = subst (λ (x : Linked). IsReached (plain x) c.args.cell) (sym design) c.requires.reached in
    record {
      rules = subst (λ (x : RuleSet). IsSound (rules_seen x)) (sym c.rules-rules.ensures) c.sound.ensures.rules;
      known = reached_cell c.design-design.result.now c.args.cell c.sound-2.ensures reached;
      zones = subst (λ (x : Linked). AreZones (plain x) (rules_seen c.rules-rules.result.now) a.zones.now) (sym c.design-design.ensures)
          (subst (λ (x : RuleSet). AreZones (plain a.wired.now.design) (rules_seen x) a.zones.now) (sym c.rules-rules.ensures) c.self.invariant.zones);
      layers = subst (λ (x : Linked). AreLayersOf (plain x) (rules_seen c.rules-rules.result.now) a.layers) (sym c.design-design.ensures)
          (subst (λ (x : RuleSet). AreLayersOf (plain a.wired.now.design) (rules_seen x) a.layers) (sym c.rules-rules.ensures) c.self.invariant.layers);
      reached = reached;
    }

pub cell_gates-requires-clause-design : goal.cell_gates-requires-clause-design
cell_gates-requires-clause-design c = ap (λ (z : BelowSeen). plain z.design) c.below-cells.ensures ∙ ap (λ (x : Linked). plain x) (sym c.design-design.ensures)

pub cell_gates-requires-clause-wiring : goal.cell_gates-requires-clause-wiring
cell_gates-requires-clause-wiring c = ap (λ (z : BelowSeen). wiring_seen z) c.below-cells.ensures ∙ ap (λ (x : RuleSet). wiring_of (rules_seen x)) (sym c.rules-rules.ensures)

pub cell_gates-requires-clause-nets : goal.cell_gates-requires-clause-nets
cell_gates-requires-clause-nets c =
    let a = c.self.inside in let w = a.wired.now in
    let same = c.below-cells.ensures ∙ ap (λ (l : List (Option (Bor CellNets))). with_nets w (nets_of l)) c.deref.ensures.value in
    subst (λ (x : Linked). AreRightNets (plain x) (wiring_of (rules_seen c.rules-rules.result.now)) (tables_seen c.below-cells.result)) (sym c.design-design.ensures)
    (subst (λ (x : RuleSet). AreRightNets (plain w.design) (wiring_of (rules_seen x)) (tables_seen c.below-cells.result)) (sym c.rules-rules.ensures)
    (subst (λ (z : BelowSeen). AreRightNets (plain w.design) (wiring_of (rules_seen w.rules)) (tables_seen z)) (sym same) c.self.invariant.nets))

pub cell_gates-requires-clause-grounds : goal.cell_gates-requires-clause-grounds
cell_gates-requires-clause-grounds c = rw c.deref-2.ensures.value (c.self.invariant.grounds ∙ ap (λ (x : RuleSet). rule_grounds (rules_seen x)) (sym c.rules-rules.ensures))

pub returns : goal.returns
returns c =
    let design = c.design-design.ensures ∙ ap (λ (z : WorkOf). z.design) c.self.view_is in
    let rules = c.rules-rules.ensures ∙ ap (λ (z : WorkOf). z.rules) c.self.view_is in
    if_ok _ _ c.cell_gates.result
    (λ v made. subst (λ (x : Linked). GoOn (plain x) (rules_seen c.args.self.now.rules) c.args.cell c.args.from c.args.to v.items) design
    (subst (λ (x : RuleSet). GoOn (plain c.design-design.result.now) (rules_seen x) c.args.cell c.args.from c.args.to v.items) rules made))
    c.cell_gates.ensures
