-- What a phase of nets is made from.
use Rattle.std.specs.Prelude.{ℕ, List}
use Rattle.cell_graph.specs.Linked.{Linked}
use Rattle.rule_text.specs.declared.rules.RuleSet.{RuleSet}

-- the layout, the rules and the jobs
pub record NetJobs : Type 0 where
  pub design : Linked
  pub rules : RuleSet
  pub graph : List (List ℕ)
