use Rattle.std.proofs.Common.{arith, get_or}
use Rattle.net_walk.proofs.Grounding.{grounded_at, lines_all, lines_more, no_ground, no_lines}
use Rattle.net_walk.proofs.globals.ground_lines.Goals as goal

pub loop-line-init : goal.loop-line-init
loop-line-init g c =
    let d = g.C.Cells.design c.args.cells.now in
    let w = g.C.Cells.wiring c.args.cells.now in
    let t = g.C.Cells.tables c.args.cells.now in
    let cell = c.args.globals.now.cell in
    no_lines d w t cell c.args.out.now.items

pub ground_line-requires-clause-line : goal.ground_line-requires-clause-line
ground_line-requires-clause-line g c =
    let k = c.loop-line.line-index in
    let o = get_or c.args.lines.now k no_ground in
    c.requires.lines o.conductor o.global (grounded_at c.args.lines.now k (omega arith))

pub loop-line-preserved : goal.loop-line-preserved
loop-line-preserved g c =
    let d = g.C.Cells.design c.args.cells.now in
    let w = g.C.Cells.wiring c.args.cells.now in
    let t = g.C.Cells.tables c.args.cells.now in
    let cell = c.args.globals.now.cell in
    lines_more d w t cell c.args.lines.now c.loop-line.line-index no_ground c.args.out.now.items c.loop-line.out.items c.ground_line.new.out.items (omega arith) c.loop-line.invariant c.in_ok-ground_line.ensures

pub returns : goal.returns
returns g c =
    let d = g.C.Cells.design c.args.cells.now in
    let w = g.C.Cells.wiring c.args.cells.now in
    let t = g.C.Cells.tables c.args.cells.now in
    let cell = c.args.globals.now.cell in
    lines_all d w t cell c.args.lines.now c.loop-line.line-index c.args.out.now.items c.loop-line.out.items (omega arith) c.loop-line.invariant
