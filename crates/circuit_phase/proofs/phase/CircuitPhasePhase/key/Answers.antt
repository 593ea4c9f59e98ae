use Rattle.std.proofs.Common.{◌∙◌, ℕ, ap}
use Rattle.cell_graph.specs.Linked.{Linked}
use Rattle.rule_text.specs.declared.rules.RuleSet.{RuleSet}
use Rattle.deep_tables.specs.declared.circuits.CircuitKey.{CircuitKey}
use Rattle.circuit_phase.proofs.phase.CircuitPhasePhase.key.Goals as goal

abbrev key_of : Linked → RuleSet → ℕ → CircuitKey
key_of d r n = record {
  design = record { marker = record {}; value = d };
  rules = record { marker = record {}; value = r };
  unit_pm = record { marker = record {}; value = n };
}

pub returns : goal.returns
returns c =
    ap (λ d. key_of d c.of-2.result.value c.of-3.result.value) c.of.ensures ∙ ap (λ r. key_of c.self.inside.design.now r c.of-3.result.value) c.of-2.ensures
    ∙ ap (λ n. key_of c.self.inside.design.now c.self.inside.rules.now n) c.of-3.ensures ∙ ap (λ v. key_of v.design v.rules v.unit) c.self.view_is
