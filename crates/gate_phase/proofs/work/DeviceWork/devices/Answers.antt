use Rattle.std.proofs.Common.{◌≡◌, ◌∙◌, List, length, sym, ap}
use Rattle.std.proofs.lemmas.List.{length-map}
use Rattle.rule_layers.specs.Meaning.{device_rules, wiring_of}
use Rattle.rule_text.specs.Seen.{rules_seen}
use Rattle.gate_phase.specs.Terminals.{RuleGrounds, grounds_by, grounds_seen}
use Rattle.gate_phase.specs.Work.{WorkOf}
use Rattle.gate_phase.proofs.work.DeviceWork.devices.Goals as goal

pub returns : goal.returns
returns c =
    let a = c.self.inside in let r = rules_seen a.wired.now.rules in
    let many : length a.grounds.items ≡ length (device_rules r) = sym (length-map a.grounds.items grounds_seen) ∙ ap (λ (l : List RuleGrounds). length l) c.self.invariant.grounds ∙ length-map (device_rules r) (grounds_by (wiring_of r)) in
    c.len.ensures ∙ c.self.inside.grounds.ok.0 ∙ many ∙ ap (λ (z : WorkOf). length (device_rules (rules_seen z.rules))) c.self.view_is
