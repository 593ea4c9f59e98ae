use Rattle.std.proofs.Common.{[]}
use Rattle.std.proofs.lemmas.Result.{IfOk-at_ok}
use Rattle.cell_graph.specs.Linked.{plain}
use Rattle.net_phase.proofs.linked.both_halves.Goals as goal
use Rattle.net_phase.specs.Below.{tables_seen, wiring_seen}
use Rattle.net_walk.specs.Pairs.{AddsPairs}

pub returns-clause-some : goal.returns-clause-some
returns-clause-some g c =
    let v = c.args.below.now in
    let is = rw c.in_ok-one.is at c.branch-one.ensures in
    IfOk-at_ok (λ l. AddsPairs (plain v.design) (wiring_seen v) (tables_seen v) c.args.site.now.cell c.args.some.now [] l.items) is c.both-one.ensures.first

pub returns-clause-others : goal.returns-clause-others
returns-clause-others g c =
    let v = c.args.below.now in
    let is = rw c.in_ok-other.is at c.branch-other.ensures in
    IfOk-at_ok (λ l. AddsPairs (plain v.design) (wiring_seen v) (tables_seen v) c.args.site.now.cell c.args.others.now [] l.items) is c.both-one.ensures.second
