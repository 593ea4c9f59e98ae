use Rattle.cell_graph.specs.Linked.{plain}
use Rattle.gate_phase.proofs.Listing.{go_both}
use Rattle.gate_phase.proofs.work.DeviceWork.gates_by.Goals as goal
use Rattle.rule_text.specs.Seen.{rules_seen}

pub returns : goal.returns
returns g c =
    let w = c.args.self.now in
    let halves = c.in_ok-halves.halves in
    rw c.in_ok-push_all.ensures
    (go_both (plain w.design) (rules_seen w.rules) c.args.cell c.args.from _ c.args.to halves.0.items halves.1.items c.in_ok-halves.ensures.one c.in_ok-halves.ensures.other)
