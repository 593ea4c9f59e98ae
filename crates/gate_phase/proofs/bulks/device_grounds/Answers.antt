use Rattle.std.proofs.Common.{◌∙◌, List, map, ap, arith}
use Rattle.flat_layout.specs.Regions.{ground_of}
use Rattle.net_phase.specs.Wires.{ground_line}
use Rattle.net_walk.specs.declared.globals.Grounded.{Grounded}
use Rattle.rule_layers.specs.Meaning.{device_rules, wiring_of}
use Rattle.rule_text.specs.Seen.{rules_seen}
use Rattle.gate_phase.specs.Terminals.{grounds_by, grounds_seen}
use Rattle.gate_phase.specs.declared.bulks.Grounds.{Grounds}
use Rattle.gate_phase.proofs.Bulking.{all_found, grounds_same, one_found}
use Rattle.gate_phase.proofs.Numbering.{device_is, some_rule}
use Rattle.gate_phase.proofs.bulks.device_grounds.Goals as goal

pub loop-number-preserved : goal.loop-number-preserved
loop-number-preserved c =
    let r = rules_seen c.args.rules.now in let n = c.loop-number.number in let x = c.device_at-device.result in
    let u = some_rule r n (let e = c.in_ok-count.ensures.count in omega arith) in
    let is = device_is r n x u.0 c.device_at-device.ensures u.1 in
    let g : Grounds = record { ends = c.ground.result; bulk = c.ground-in-loop-number.result } in
    one_found (grounds_by (wiring_of r)) grounds_seen (device_rules r) c.loop-number.found.items c.push.new.self.items n u.0 g u.1 c.in_ok-push.ensures.items
    (grounds_same (wiring_of r) u.0 x c.in_ok-grounds.grounds.lines.items g c.in_ok-grounds.ensures.lines is.ts is.tb
    (c.ground.ensures ∙ ap (λ (l : List Grounded). ground_of x.ts (map ground_line l)) c.deref.ensures.value) (c.ground-in-loop-number.ensures ∙ ap (λ (l : List Grounded). ground_of x.tb (map ground_line l)) c.deref-in-loop-number.ensures.value)) c.loop-number.invariant

pub returns : goal.returns
returns c =
    let r = rules_seen c.args.rules.now in
    all_found (grounds_by (wiring_of r)) grounds_seen (device_rules r) c.loop-number.found.items c.loop-number.number (let past = c.loop-number-test.false in let e = c.in_ok-count.ensures.count in omega arith) c.loop-number.invariant
