use Rattle.std.proofs.Common.{◌≤◌, ◌^◌, length, arith}
use Rattle.flat_layout.specs.Nets.{items_of}
use Rattle.net_link_laws.proofs.Standing.{items_long}
use Rattle.net_walk.proofs.Results.{on_err}
use Rattle.net_walk.proofs.together.count_items.Goals as goal

pub returns-clause-count : goal.returns-clause-count
returns-clause-count g c =
    let d = g.C.Cells.design c.args.cells.now in
    let w = g.C.Cells.wiring c.args.cells.now in
    let t = g.C.Cells.tables c.args.cells.now in
    let cell = c.args.cell in
    let long = items_long d w t cell in
    let a = c.in_ok-owned.ensures.count in
    let b = c.in_ok-placed.ensures.count in
    let m = c.requires in
    let n = c.in_ok-items.ensures.sum in
    omega (arith, long, a, b, m, n)

pub returns-in_err-owned-clause-err : goal.returns-in_err-owned-clause-err
returns-in_err-owned-clause-err g c =
    let d = g.C.Cells.design c.args.cells.now in
    let w = g.C.Cells.wiring c.args.cells.now in
    let t = g.C.Cells.tables c.args.cells.now in
    let cell = c.args.cell in
    let long = items_long d w t cell in
    let e = c.in_err-owned.ensures.err in
    let over : 2 ^ 32 ≤ length (items_of d w t cell) = omega (arith, long, e) in
    on_err c.from_residual.result (2 ^ 32 ≤ length (items_of d w t cell)) over

pub returns-in_err-placed-clause-err : goal.returns-in_err-placed-clause-err
returns-in_err-placed-clause-err g c =
    let d = g.C.Cells.design c.args.cells.now in
    let w = g.C.Cells.wiring c.args.cells.now in
    let t = g.C.Cells.tables c.args.cells.now in
    let cell = c.args.cell in
    let long = items_long d w t cell in
    let a = c.in_ok-owned.ensures.count in
    let e = c.in_err-placed.ensures.err in
    let over : 2 ^ 32 ≤ length (items_of d w t cell) = omega (arith, long, a, e) in
    on_err c.from_residual-in_err-placed.result (2 ^ 32 ≤ length (items_of d w t cell)) over

pub returns-in_err-items-clause-err : goal.returns-in_err-items-clause-err
returns-in_err-items-clause-err g c =
    let d = g.C.Cells.design c.args.cells.now in
    let w = g.C.Cells.wiring c.args.cells.now in
    let t = g.C.Cells.tables c.args.cells.now in
    let cell = c.args.cell in
    let long = items_long d w t cell in
    let a = c.in_ok-owned.ensures.count in
    let b = c.in_ok-placed.ensures.count in
    let m = c.requires in
    let e = c.in_err-items.ensures.err in
    let over : 2 ^ 32 ≤ length (items_of d w t cell) = omega (arith, long, a, b, m, e) in
    on_err c.from_residual-in_err-items.result (2 ^ 32 ≤ length (items_of d w t cell)) over
