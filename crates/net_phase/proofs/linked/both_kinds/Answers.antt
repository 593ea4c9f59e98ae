use Rattle.std.proofs.Common.{[]}
use Rattle.std.proofs.lemmas.Result.{IfOk-at_ok}
use Rattle.cell_graph.specs.Linked.{plain}
use Rattle.net_phase.proofs.linked.both_kinds.Goals as goal
use Rattle.net_phase.specs.Below.{tables_seen, wiring_seen}
use Rattle.net_phase.specs.Linked.{AreApartLinks}
use Rattle.net_walk.specs.Beside.{AddsBeside}

pub returns-clause-apart : goal.returns-clause-apart
returns-clause-apart g c =
    let v = c.args.below.now in
    let is = rw c.in_ok-apart.is at c.branch-apart.ensures in
    IfOk-at_ok (λ l. AreApartLinks (plain v.design) (wiring_seen v) (tables_seen v) c.args.site.now.cell l.items) is c.both-beside.ensures.second

pub returns-clause-beside : goal.returns-clause-beside
returns-clause-beside g c =
    let v = c.args.below.now in
    let is = rw c.in_ok-beside.is at c.branch-beside.ensures in
    IfOk-at_ok (λ l. AddsBeside (plain v.design) (wiring_seen v) (tables_seen v) c.args.site.now.cell [] l.items) is c.both-beside.ensures.first
