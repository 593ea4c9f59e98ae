use Rattle.std.proofs.Common.{subst}
use Rattle.cell_graph.specs.Linked.{IsSound, Linked}
use Rattle.rule_text.specs.Seen.{rules_seen}
use Rattle.deep_tables.specs.Entries.{IsUpward, upward_cell}
use Rattle.deep_tables.specs.Nets.{AreCellNets}
use Rattle.deep_tables.proofs.Finding.{upward}
use Rattle.deep_flow.proofs.Jobs.{by_jobs}
use Rattle.deep_flow.proofs.nets.find_nets.Goals as goal

pub returns : goal.returns
returns g c =
    let d = c.args.wired.now.design in let r = c.args.wired.now.rules in let p = c.in_ok-phase.phase in let made = c.in_ok-phase.ensures in
    let results = c.in_ok-results.results in
    upward AreCellNets d (rules_seen r) results c.in_ok-nets.nets
    (subst (λ (x : Linked). IsSound x) c.design-design.ensures c.sound.ensures) (subst (λ (x : Linked). IsUpward x results c.in_ok-nets.nets) c.design-design.ensures c.in_ok-nets.ensures)
    (by_jobs AreCellNets upward_cell d p.design r p.rules p.graph results made.design made.rules made.jobs.jobs c.in_ok-results.ensures.each)
