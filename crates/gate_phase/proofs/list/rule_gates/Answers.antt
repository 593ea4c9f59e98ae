use Rattle.std.proofs.Common.{sym, subst}
use Rattle.cell_graph.specs.Linked.{plain}
use Rattle.flat_layout.specs.Layout.{Design}
use Rattle.flat_layout.specs.Regions.{Wiring}
use Rattle.net_link_laws.specs.Laws.{AreNetsUnder}
use Rattle.rule_text.specs.Seen.{rules_seen}
use Rattle.gate_phase.specs.Own.{IsRuleReach}
use Rattle.gate_phase.proofs.Reaching.{rule_most, rule_reach}
use Rattle.gate_phase.specs.Judged.{AreGatesOf, IsGateOf, IsHeldShape}
use Rattle.gate_phase.specs.Terminals.{grounds_seen}
use Rattle.gate_phase.proofs.Listing.{rule_all}
use Rattle.gate_phase.proofs.Numbering.{device_is, rule_at}
use Rattle.gate_phase.proofs.Results.{if_ok}
use Rattle.gate_phase.proofs.Terminal.{held_shape, nets_under}
use Rattle.gate_phase.proofs.list.rule_gates.Goals as goal

pub own_gates-requires : goal.own_gates-requires
own_gates-requires g c =
    let r = rules_seen c.args.site.now.rules.now in
    let reach = subst (IsRuleReach r c.args.number) (sym c.device_reach-reach.ensures) (rule_reach r c.args.site.now.layers.now.reaches c.args.number c.device_at-device.result c.requires.ready.rules c.requires.ready.layers.reaches c.device_at-device.ensures) in
    record {
      ready = record {
        site = c.requires.ready;
        known = c.requires.known;
        device = c.device_at-device.ensures;
        reach = reach;
        most = rule_most r c.args.number c.device_reach-reach.result c.requires.ready.rules c.requires.known reach;
      };
    }

pub judged_gates-requires-clause-nets : goal.judged_gates-requires-clause-nets
judged_gates-requires-clause-nets g c =
    let d = c.args.site.now.design.now in let r = rules_seen c.args.site.now.rules.now in let t = g.C.Cells.tables c.args.cells.now in
    subst (λ (z : Design). AreNetsUnder z (g.C.Cells.wiring c.args.cells.now) t c.args.site.now.cell) (sym c.requires.design)
    (subst (λ (z : Wiring). AreNetsUnder (plain d) z t c.args.site.now.cell) (sym c.requires.wiring) (nets_under d r t c.sound.ensures c.requires.ready.rules c.requires.nets c.args.site.now.cell c.requires.ready.reached))

pub judged_gates-requires-clause-held : goal.judged_gates-requires-clause-held
judged_gates-requires-clause-held g c = λ i y e.
    let d = c.args.site.now.design.now in let r = rules_seen c.args.site.now.rules.now in let t = g.C.Cells.tables c.args.cells.now in let x = c.device_at-device.result in
    let u = rule_at r c.args.number x c.device_at-device.ensures in
    let own = (c.in_ok-own.ensures u.rule u.there).each i y e in
    let at = grounds_seen c.args.grounds in
    subst (λ (z : Design). IsHeldShape z (g.C.Cells.wiring c.args.cells.now) t x c.args.site.now.cell at y.least y.shape) (sym c.requires.design)
    (subst (λ (z : Wiring). IsHeldShape (plain d) z t x c.args.site.now.cell at y.least y.shape) (sym c.requires.wiring)
    (held_shape d r t c.sound.ensures c.requires.ready.rules c.requires.nets c.args.site.now.cell c.requires.ready.reached u.rule x at (record { kind = u.device.kind; ts = u.device.ts; tg = u.device.tg; tb = u.device.tb }) (c.requires.grounds u.rule u.there) y own))

pub returns : goal.returns
returns g c =
    let d = c.args.site.now.design.now in let r = rules_seen c.args.site.now.rules.now in let t = g.C.Cells.tables c.args.cells.now in let x = c.device_at-device.result in let n = c.args.number in
    let at = grounds_seen c.args.grounds in
    if_ok _ _ c.judged_gates.result (λ v of u there.
    let is = device_is r n x u c.device_at-device.ensures there in
    rule_all d r t x at n c.args.site.now.cell u c.in_ok-own.own.items v.items c.sound.ensures c.requires.nets c.requires.ready.reached there (record { kind = is.kind; ts = is.ts; tg = is.tg; tb = is.tb }) (c.requires.grounds u there) (c.in_ok-own.ensures u there)
    (subst (λ (z : Wiring). AreGatesOf (IsGateOf (plain d) z t x at n c.args.site.now.cell) c.in_ok-own.own.items v.items) c.requires.wiring
    (subst (λ (z : Design). AreGatesOf (IsGateOf z (g.C.Cells.wiring c.args.cells.now) t x at n c.args.site.now.cell) c.in_ok-own.own.items v.items) c.requires.design of)))
    c.judged_gates.ensures
