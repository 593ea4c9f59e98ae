use Rattle.std.proofs.lemmas.Result.{IfOk-at_ok}
use Rattle.net_align.specs.Side.{IsSide}
use Rattle.net_model.specs.Rows.{plain_netlist}
use Rattle.net_align.proofs.below.both_sides.Goals as goal

pub returns-clause-left : goal.returns-clause-left
returns-clause-left g c =
    let s = c.args.layout.now in
    let is = rw c.in_ok-one.is at c.branch-one.ensures in
    IfOk-at_ok (λ side. IsSide (plain_netlist s.netlist.now) s.circuits.now (plain_netlist side)) is c.both-one.ensures.first

pub returns-clause-right : goal.returns-clause-right
returns-clause-right g c =
    let s = c.args.schematic.now in
    let is = rw c.in_ok-other.is at c.branch-other.ensures in
    IfOk-at_ok (λ side. IsSide (plain_netlist s.netlist.now) s.circuits.now (plain_netlist side)) is c.both-one.ensures.second
