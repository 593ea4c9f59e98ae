use Rattle.std.proofs.Common.{◌≡◌, ◌∙◌, List, length, ap, arith}
use Rattle.geo_base.specs.declared.shapes.Rect.{Rect}
use Rattle.net_link_laws.proofs.Standing.{own_next}
use Rattle.net_link_laws.specs.Places.{owned_before}
use Rattle.net_walk.proofs.Walking.{owned_step}
use Rattle.net_walk.proofs.walk.owned_before.Goals as goal

pub overflow_add-at : goal.overflow_add-at
overflow_add-at g c =
    let t = g.C.Cells.tables c.args.cells.now in
    let h = owned_step t c.args.cell c.loop-conductor.conductor c.args.conductors c.loop-conductor-test.true in
    let e = ap (λ (l : List Rect). length l) c.own.ensures.all in
    let i = c.loop-conductor.invariant in
    let r = c.requires in
    omega (arith, h, e, i, r)

pub loop-conductor-preserved : goal.loop-conductor-preserved
loop-conductor-preserved g c =
    let t = g.C.Cells.tables c.args.cells.now in
    let h = own_next t c.args.cell c.loop-conductor.conductor in
    let e = ap (λ (l : List Rect). length l) c.own.ensures.all in
    let i = c.loop-conductor.invariant in
    omega (arith, h, e, i)

pub returns : goal.returns
returns g c =
    let t = g.C.Cells.tables c.args.cells.now in
    let e = ap (owned_before t c.args.cell) (let same : c.loop-conductor.conductor ≡ c.args.conductors = omega arith in same) in
    c.loop-conductor.invariant ∙ e
