use Rattle.std.proofs.Common.{◌∙◌, Bool, ap}
use Rattle.cell_graph.specs.Linked.{Linked}
use Rattle.rule_text.specs.declared.rules.RuleSet.{RuleSet}
use Rattle.deep_tables.specs.declared.keys.GateKey.{GateKey}
use Rattle.gate_phase.proofs.work.DeviceWork.key.Goals as goal
use Rattle.gate_phase.specs.Work.{WorkOf, key_of}

abbrev key_by : Linked → RuleSet → Bool → GateKey
key_by d r b = record { design = record { marker = record {}; value = d }; rules = record { marker = record {}; value = r }; further = record { marker = record {}; value = b } }

pub returns : goal.returns
returns c =
    let w = c.self.inside.wired.now in
    ap (λ d. key_by d c.of-2.result.value c.of-3.result.value) (c.of.ensures ∙ c.design.ensures) ∙ ap (λ r. key_by w.design r c.of-3.result.value) (c.of-2.ensures ∙ c.rules.ensures)
    ∙ ap (λ b. key_by w.design w.rules b) c.of-3.ensures ∙ ap (λ (z : WorkOf). key_of z c.args.further) c.self.view_is
