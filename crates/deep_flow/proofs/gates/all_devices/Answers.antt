use Rattle.std.proofs.Common.{◌≡◌, ◌∙◌, ap, sym, subst}
use Rattle.cell_graph.specs.Linked.{IsSound, Linked, plain}
use Rattle.rule_text.specs.Seen.{rules_seen}
use Rattle.rule_text.specs.declared.rules.RuleSet.{RuleSet}
use Rattle.deep_tables.specs.Entries.{IsUpward, upward_cell}
use Rattle.deep_tables.specs.Gates.{AreCellGates, AreMosCellGates, AreMosGates}
use Rattle.deep_tables.proofs.Finding.{upward}
use Rattle.deep_tables.specs.Jobs.{AreFreeJobs}
use Rattle.gate_phase.specs.Work.{WorkOf}
use Rattle.deep_flow.proofs.Jobs.{by_jobs}
use Rattle.deep_flow.proofs.gates.all_devices.Goals as goal

pub over-more-requires : goal.over-more-requires
over-more-requires g c =
    let d = c.args.wired.now.design in let r = c.args.wired.now.rules in let p = c.in_ok-phase.phase in let made = c.in_ok-phase.ensures in
    let results = c.in_ok-results.results in let table = c.in_ok-gates.gates in
    let gates : AreMosGates (plain d) (rules_seen r) table =
    upward AreMosCellGates d (rules_seen r) results table
    (subst (λ (x : Linked). IsSound x) c.design-design.ensures c.sound.ensures) (subst (λ (x : Linked). IsUpward x results table) c.design-design.ensures c.in_ok-gates.ensures)
    (by_jobs AreMosCellGates upward_cell d p.design r p.rules p.graph results made.design made.rules made.jobs.jobs c.in_ok-results.ensures.each) in
    subst (λ (z : WorkOf). AreMosGates (plain z.design) (rules_seen z.rules) table) (sym c.into_work.ensures)
    (subst (λ (x : Linked). AreMosGates (plain x) (rules_seen p.rules) table) (sym made.design) (subst (λ (x : RuleSet). AreMosGates (plain d) (rules_seen x) table) (sym made.rules) gates))

pub returns : goal.returns
returns g c =
    let d = c.args.wired.now.design in let r = c.args.wired.now.rules in let p = c.in_ok-phase.phase in let made = c.in_ok-phase.ensures in
    let more = c.over-more.result in
    let is : more ≡ p = c.over-more.ensures ∙ c.into_work.ensures in
    let jobs = subst (λ (z : WorkOf). AreFreeJobs d z.graph) (sym is) made.jobs in
    let found = c.in_ok-found.found in let table = c.in_ok-devices.devices in
    upward AreCellGates d (rules_seen r) found table
    (subst (λ (x : Linked). IsSound x) c.design-design.ensures c.sound.ensures) (subst (λ (x : Linked). IsUpward x found table) c.design-design.ensures c.in_ok-devices.ensures)
    (by_jobs AreCellGates upward_cell d more.design r more.rules more.graph found (ap (λ (z : WorkOf). z.design) is ∙ made.design) (ap (λ (z : WorkOf). z.rules) is ∙ made.rules) jobs.jobs c.in_ok-found.ensures.each)
