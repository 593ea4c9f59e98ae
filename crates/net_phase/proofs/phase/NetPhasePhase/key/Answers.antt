use Rattle.std.proofs.Common.{◌∙◌, ap}
use Rattle.cell_graph.specs.Linked.{Linked}
use Rattle.rule_text.specs.declared.rules.RuleSet.{RuleSet}
use Rattle.deep_tables.specs.declared.keys.DeepKey.{DeepKey}
use Rattle.net_phase.proofs.phase.NetPhasePhase.key.Goals as goal

abbrev key_of : Linked → RuleSet → DeepKey
key_of d r = record { design = record { marker = record {}; value = d }; rules = record { marker = record {}; value = r } }

pub returns : goal.returns
returns g c =
    ap (λ d. key_of d c.of-2.result.value) (c.of.ensures ∙ c.design.ensures) ∙ ap (λ r. key_of c.self.inside.wired.now.design r) (c.of-2.ensures ∙ c.rules.ensures)
    ∙ ap (λ v. key_of v.design v.rules) c.self.view_is
