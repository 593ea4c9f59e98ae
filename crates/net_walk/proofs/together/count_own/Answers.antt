use Rattle.std.proofs.Common.{◌≡◌, ◌<◌, ◌≤◌, ◌^◌, List, length, ap, arith, ◌∙◌}
use Rattle.geo_base.specs.declared.shapes.Rect.{Rect}
use Rattle.net_link_laws.proofs.Standing.{own_next}
use Rattle.net_link_laws.specs.Places.{owned_before}
use Rattle.net_walk.proofs.Results.{on_err}
use Rattle.net_walk.proofs.Walking.{owned_step}
use Rattle.net_walk.proofs.together.count_own.Goals as goal

pub loop-conductor-preserved : goal.loop-conductor-preserved
loop-conductor-preserved g c =
    let t = g.C.Cells.tables c.args.cells.now in
    let next = own_next t c.args.cell c.loop-conductor.conductor in
    let own = ap (λ (l : List Rect). length l) c.own.ensures.all in
    let i = c.loop-conductor.invariant in
    let m = c.in_ok-count.ensures.sum in
    omega (arith, next, own, i, m)

pub returns-clause-count : goal.returns-clause-count
returns-clause-count g c =
    let conductors = c.conductors-conductor-end.ensures in
    let end : c.loop-conductor.conductor ≡ length (g.C.Cells.wiring c.args.cells.now).conductors = omega (arith, conductors) in
    c.loop-conductor.invariant ∙ ap (owned_before (g.C.Cells.tables c.args.cells.now) c.args.cell) end

pub returns-in_err-count-clause-err : goal.returns-in_err-count-clause-err
returns-in_err-count-clause-err g c =
    let t = g.C.Cells.tables c.args.cells.now in
    let cell = c.args.cell in
    let n = length (g.C.Cells.wiring c.args.cells.now).conductors in
    let own = ap (λ (l : List Rect). length l) c.own.ensures.all in
    let i = c.loop-conductor.invariant in
    let m = c.in_err-count.ensures.err in
    let conductors = c.conductors-conductor-end.ensures in
    let lt : c.loop-conductor.conductor < n = omega (arith, conductors) in
    let step = owned_step t cell c.loop-conductor.conductor n lt in
    let over : 2 ^ 32 ≤ owned_before t cell n = omega (arith, own, i, m, step) in
    on_err c.from_residual.result (2 ^ 32 ≤ owned_before t cell n) over
