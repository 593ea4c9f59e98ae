use Rattle.std.proofs.Common.{arith}
use Rattle.net_walk.proofs.Partnering.{none_more, none_of, none_yet}
use Rattle.net_walk.proofs.partners.may_hold.Goals as goal

pub loop-conductor-init : goal.loop-conductor-init
loop-conductor-init g c = λ i lt. none_yet (g.C.Cells.design c.args.cells.now) (g.C.Cells.tables c.args.cells.now) c.args.cell c.args.conductors.now i lt

pub loop-conductor-preserved : goal.loop-conductor-preserved
loop-conductor-preserved g c =
    λ i lt. none_more (g.C.Cells.design c.args.cells.now) (g.C.Cells.tables c.args.cells.now) c.args.cell c.args.conductors.now c.loop-conductor.conductor-index c.loop-conductor.invariant (c.is_bare.ensures c.if-not-is_bare.false) i lt

pub returns : goal.returns
returns g c = λ same e o. none_of (g.C.Cells.design c.args.cells.now) (g.C.Cells.tables c.args.cells.now) c.args.cell c.args.conductors.now c.loop-conductor.conductor-index (omega arith) c.loop-conductor.invariant e o
