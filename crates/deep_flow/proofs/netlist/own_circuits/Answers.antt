use Rattle.std.proofs.Common.{ℕ, ◌∙◌, subst}
use Rattle.cell_graph.specs.Linked.{plain}
use Rattle.rule_text.specs.Seen.{rules_seen}
use Rattle.deep_tables.specs.Circuits.{IsCellCircuit}
use Rattle.deep_tables.specs.Entries.{upward_cell}
use Rattle.deep_tables.specs.Laws.{AreJobs}
use Rattle.deep_flow.proofs.Jobs.{by_jobs}
use Rattle.deep_flow.proofs.netlist.own_circuits.Goals as goal

pub returns-clause-count : goal.returns-clause-count
returns-clause-count g c = c.in_ok-values.ensures.count ∙ c.in_ok-phase.ensures.jobs.jobs

pub returns-clause-right : goal.returns-clause-right
returns-clause-right g c =
    let d = c.args.design.now in let r = c.args.rules.now in let p = c.in_ok-phase.phase in let made = c.in_ok-phase.ensures in
    subst (λ (u : ℕ). AreJobs (upward_cell d) d (IsCellCircuit u (plain d) (rules_seen r)) c.in_ok-values.values.items) made.unit
    (by_jobs (IsCellCircuit p.unit) upward_cell d p.design r p.rules p.graph c.in_ok-values.values.items made.design made.rules made.jobs.jobs c.in_ok-values.ensures.each)
