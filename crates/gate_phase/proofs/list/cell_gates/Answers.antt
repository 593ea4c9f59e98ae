use Rattle.std.proofs.Common.{◌≡◌, ◌+◌, List, None, sym, subst, arith}
use Rattle.cell_graph.specs.Linked.{plain}
use Rattle.rule_layers.specs.Meaning.{device_rules, wiring_of}
use Rattle.rule_text.specs.Seen.{rules_seen}
use Rattle.deep_tables.specs.declared.gates.Gate.{Gate}
use Rattle.gate_phase.specs.Judged.{GoOn}
use Rattle.gate_phase.specs.declared.bulks.Grounds.{Grounds}
use Rattle.gate_phase.proofs.Bulking.{grounds_at}
use Rattle.gate_phase.proofs.Listing.{go_more, go_none}
use Rattle.gate_phase.proofs.Numbering.{some_rule}
use Rattle.gate_phase.proofs.list.cell_gates.Goals as goal

abbrev none : Grounds
none = record { ends = None; bulk = None }

pub loop-device-init : goal.loop-device-init
loop-device-init g c = subst (λ (l : List Gate). GoOn (plain c.args.site.now.design.now) (rules_seen c.args.site.now.rules.now) c.args.site.now.cell c.args.from c.args.from l) (sym c.new-gates.ensures.items) (go_none (plain c.args.site.now.design.now) (rules_seen c.args.site.now.rules.now) c.args.site.now.cell c.args.from)

pub rule_gates-requires-clause-grounds : goal.rule_gates-requires-clause-grounds
rule_gates-requires-clause-grounds g c = λ u at.
    let r = rules_seen c.args.site.now.rules.now in
    (grounds_at (wiring_of r) (device_rules r) c.args.grounds.now c.loop-device.device none u c.requires.grounds at).1

pub loop-device-preserved : goal.loop-device-preserved
loop-device-preserved g c =
    let d = plain c.args.site.now.design.now in let r = rules_seen c.args.site.now.rules.now in let n = c.loop-device.device in
    let u = some_rule r n (let lt = c.loop-device-test.true in let to = c.requires.to in omega arith) in
    subst (λ (l : List Gate). GoOn d r c.args.site.now.cell c.args.from (n + 1) l) (sym c.in_ok-push_all.ensures)
    (go_more d r c.args.site.now.cell c.args.from n u.0 c.loop-device.gates.items c.in_ok-found.found.items u.1 c.loop-device.invariant (c.in_ok-found.ensures u.0 u.1))

pub returns : goal.returns
returns g c =
    let last : c.loop-device.device ≡ c.args.to = (let past = c.loop-device-test.false in let end = c.loop-device.auto.device-end in omega arith) in
    subst (λ n. GoOn (plain c.args.site.now.design.now) (rules_seen c.args.site.now.rules.now) c.args.site.now.cell c.args.from n c.loop-device.gates.items) last c.loop-device.invariant
