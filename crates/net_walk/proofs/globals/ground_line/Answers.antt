use Rattle.std.proofs.Common.{arith}
use Rattle.net_walk.proofs.Grounding.{line_unknown}
use Rattle.net_walk.proofs.globals.ground_line.Goals as goal

pub returns-then-line-conductors : goal.returns-then-line-conductors
returns-then-line-conductors g c =
    let d = g.C.Cells.design c.args.cells.now in
    let w = g.C.Cells.wiring c.args.cells.now in
    let t = g.C.Cells.tables c.args.cells.now in
    let cell = c.args.globals.now.cell in
    let e = c.conductors.ensures in
    let test = c.if-line-conductors.true in
    line_unknown d w t cell c.args.line.now c.args.out.now.items (λ a b. omega (arith, e, test, a))

pub returns-then-line-globals : goal.returns-then-line-globals
returns-then-line-globals g c =
    let d = g.C.Cells.design c.args.cells.now in
    let w = g.C.Cells.wiring c.args.cells.now in
    let t = g.C.Cells.tables c.args.cells.now in
    let cell = c.args.globals.now.cell in
    let e = c.requires.globals.count in
    let test = c.if-line-globals.true in
    line_unknown d w t cell c.args.line.now c.args.out.now.items (λ a b. omega (arith, e, test, b))
