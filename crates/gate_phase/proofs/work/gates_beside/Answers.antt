use Rattle.std.proofs.lemmas.Result.{IfOk-at_ok}
use Rattle.cell_graph.specs.Linked.{plain}
use Rattle.gate_phase.proofs.work.gates_beside.Goals as goal
use Rattle.gate_phase.specs.Judged.{GoOn}
use Rattle.rule_text.specs.Seen.{rules_seen}

pub returns-clause-one : goal.returns-clause-one
returns-clause-one g c =
    let w = c.args.work.now in
    let is = rw c.in_ok-one.is at c.branch-one.ensures in
    IfOk-at_ok (λ v. GoOn (plain w.design) (rules_seen w.rules) c.args.cell c.args.from c.args.middle v.items) is c.both-one.ensures.first

pub returns-clause-other : goal.returns-clause-other
returns-clause-other g c =
    let w = c.args.work.now in
    let is = rw c.in_ok-other.is at c.branch-other.ensures in
    IfOk-at_ok (λ v. GoOn (plain w.design) (rules_seen w.rules) c.args.cell c.args.middle c.args.to v.items) is c.both-one.ensures.second
