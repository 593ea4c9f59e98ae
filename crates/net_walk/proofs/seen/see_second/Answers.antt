use Rattle.std.proofs.Common.{arith, length}
use Rattle.net_walk.proofs.Seeing.{where_apart, where_none, where_seen}
use Rattle.net_walk.proofs.seen.see_second.Goals as goal
use Rattle.net_walk.specs.Walk.{place_of}

pub returns : goal.returns
returns g c =
    where_seen (g.C.Cells.design c.args.cells.now) (g.C.Cells.tables c.args.cells.now) (place_of c.args.sight.now.placed.element.now) c.args.sight.now.window.now c.args.sight.now.placed.at c.args.line.now.first c.args.conductor c.args.line.now.second (length (g.C.Cells.wiring c.args.cells.now).conductors)
    c.args.out.now.items c.see_conductor.new.out.items (omega arith) (omega arith) c.in_ok-see_conductor.ensures

pub returns-then-line-conductor : goal.returns-then-line-conductor
returns-then-line-conductor g c =
    where_apart (g.C.Cells.design c.args.cells.now) (g.C.Cells.tables c.args.cells.now) (place_of c.args.sight.now.placed.element.now) c.args.sight.now.window.now c.args.sight.now.placed.at c.args.line.now.first c.args.conductor c.args.line.now.second (length (g.C.Cells.wiring c.args.cells.now).conductors) c.args.out.now.items c.if-line-conductor.true

pub returns-then-line-conductors : goal.returns-then-line-conductors
returns-then-line-conductors g c =
    let e = c.conductors.ensures in
    let out = c.if-line-conductors.true in
    where_none (g.C.Cells.design c.args.cells.now) (g.C.Cells.tables c.args.cells.now) (place_of c.args.sight.now.placed.element.now) c.args.sight.now.window.now c.args.sight.now.placed.at c.args.line.now.first c.args.conductor c.args.line.now.second (length (g.C.Cells.wiring c.args.cells.now).conductors) c.args.out.now.items (λ h. omega (arith, h))
