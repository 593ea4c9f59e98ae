use Rattle.std.proofs.Common.{subst}
use Rattle.cell_graph.specs.Linked.{IsSound, Linked}
use Rattle.rule_text.specs.Seen.{rules_seen}
use Rattle.deep_tables.specs.Entries.{IsDownward, downward_cell}
use Rattle.deep_tables.specs.Pins.{AreCellPins}
use Rattle.deep_tables.proofs.Finding.{downward}
use Rattle.deep_flow.proofs.Jobs.{by_jobs}
use Rattle.deep_flow.proofs.pins.find_pins.Goals as goal

pub returns : goal.returns
returns g c =
    let d = c.args.wired.now.design in let r = c.args.wired.now.rules in let p = c.in_ok-phase.phase in let made = c.in_ok-phase.ensures in
    let results = c.in_ok-results.results in
    downward AreCellPins d (rules_seen r) results c.in_ok-pins.pins
    (subst (λ (x : Linked). IsSound x) c.design-design.ensures c.sound.ensures) (subst (λ (x : Linked). IsDownward x results c.in_ok-pins.pins) c.design-design.ensures c.in_ok-pins.ensures)
    (by_jobs AreCellPins downward_cell d p.design r p.rules p.graph results made.design made.rules made.jobs.jobs c.in_ok-results.ensures.each)
