use Rattle.std.proofs.Common.{◌++◌, ◌∙◌, List, map, length, ap, arith}
use Rattle.deep_tables.specs.Nets.{plain_item}
use Rattle.flat_layout.specs.Nets.{Own, run}
use Rattle.geo_base.specs.declared.shapes.Rect.{Rect}
use Rattle.net_link_laws.proofs.Standing.{items_long}
use Rattle.net_phase.proofs.Itemizing.{owns_all, owns_more}
use Rattle.net_phase.proofs.items.push_rects.Goals as goal
use Rattle.net_walk.proofs.Placing.{nothing_behind}
use Rattle.net_walk.proofs.Walking.{owned_step}

pub loop-conductor-init : goal.loop-conductor-init
loop-conductor-init g c = nothing_behind (map plain_item c.args.out.now.items)

pub overflow_cast-rects : goal.overflow_cast-rects
overflow_cast-rects g c =
    let d = g.C.Cells.design c.args.cells.now in
    let w = g.C.Cells.wiring c.args.cells.now in
    let t = g.C.Cells.tables c.args.cells.now in
    let cell = c.args.cell in
    let n = c.conductors-conductor-end.ensures in
    let own = ap (λ (l : List Rect). length l) c.own.ensures.all in
    let below = owned_step t cell c.loop-conductor.conductor (length w.conductors) (omega (arith, n)) in
    let long = items_long d w t cell in
    let room = c.requires in
    omega (arith, own, below, long, room)

pub loop-conductor-preserved : goal.loop-conductor-preserved
loop-conductor-preserved g c =
    let d = g.C.Cells.design c.args.cells.now in
    let w = g.C.Cells.wiring c.args.cells.now in
    let t = g.C.Cells.tables c.args.cells.now in
    let cell = c.args.cell in
    let k = c.loop-conductor.conductor in
    let n = c.conductors-conductor-end.ensures in
    let own = ap (λ (l : List Rect). length l) c.own.ensures.all in
    let added = c.in_ok-push_own.ensures ∙ ap (λ i. map plain_item c.loop-conductor.out.items ++ run (Own k) 0 i) own in
    owns_more t cell k w.conductors (map plain_item c.args.out.now.items) (map plain_item c.loop-conductor.out.items) (map plain_item c.push_own.new.out.items) (omega (arith, n)) c.loop-conductor.invariant added

pub returns : goal.returns
returns g c =
    let d = g.C.Cells.design c.args.cells.now in
    let w = g.C.Cells.wiring c.args.cells.now in
    let t = g.C.Cells.tables c.args.cells.now in
    let cell = c.args.cell in
    let n = c.conductors-conductor-end.ensures in
    owns_all t cell c.loop-conductor.conductor w.conductors (map plain_item c.args.out.now.items) (map plain_item c.loop-conductor.out.items) (omega (arith, n)) c.loop-conductor.invariant
