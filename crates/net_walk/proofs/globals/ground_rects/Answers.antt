use Rattle.std.proofs.Common.{◌+◌, List, length, ap, arith}
use Rattle.geo_base.specs.declared.shapes.Rect.{Rect}
use Rattle.net_walk.proofs.Grounding.{global_room, owned_room, no_rect, rects_to, rects_whole}
use Rattle.net_walk.proofs.globals.ground_rects.Goals as goal

pub owned_before-first-requires : goal.owned_before-first-requires
owned_before-first-requires g c =
    let room = owned_room (g.C.Cells.design c.args.cells.now) (g.C.Cells.wiring c.args.cells.now) (g.C.Cells.tables c.args.cells.now) c.args.globals.now.cell
    c.args.line.now.conductor 4294967295 c.requires.conductor c.requires.globals.room in
    omega (arith, room)

pub overflow_cast-first : goal.overflow_cast-first
overflow_cast-first g c =
    let room = owned_room (g.C.Cells.design c.args.cells.now) (g.C.Cells.wiring c.args.cells.now) (g.C.Cells.tables c.args.cells.now) c.args.globals.now.cell
    c.args.line.now.conductor 4294967295 c.requires.conductor c.requires.globals.room in
    let first = c.owned_before-first.ensures in
    omega (arith, room, first)

pub loop-r-init : goal.loop-r-init
loop-r-init g c = no_rect (g.C.Cells.design c.args.cells.now) (g.C.Cells.wiring c.args.cells.now) (g.C.Cells.tables c.args.cells.now) c.args.globals.now.cell c.args.line.now c.requires.conductor c.requires.global c.requires.line c.args.out.now.items

pub loop-r-preserved : goal.loop-r-preserved
loop-r-preserved g c =
    let own = ap (λ (l : List Rect). length l) c.own-r-end.ensures.all in
    let first = c.owned_before-first.ensures in
    let at = c.requires.globals.at in
    rw c.in_ok-push.ensures.items
    (rects_to (g.C.Cells.design c.args.cells.now) (g.C.Cells.wiring c.args.cells.now) (g.C.Cells.tables c.args.cells.now) c.args.globals.now.cell c.args.line.now c.requires.conductor c.requires.global c.requires.line c.loop-r.r
    c.args.out.now.items c.loop-r.out.items (record { one = c.owned_before-first.result + c.loop-r.r; other = c.args.globals.now.at + c.args.line.now.global })
    (omega (arith, own)) (omega (arith, first)) (omega (arith, at)) c.loop-r.invariant)

pub returns : goal.returns
returns g c =
    let own = ap (λ (l : List Rect). length l) c.own-r-end.ensures.all in
    rects_whole (g.C.Cells.design c.args.cells.now) (g.C.Cells.wiring c.args.cells.now) (g.C.Cells.tables c.args.cells.now) c.args.globals.now.cell c.args.line.now c.requires.conductor c.requires.global c.requires.line c.loop-r.r
    c.args.out.now.items c.loop-r.out.items (omega (arith, own)) c.loop-r.invariant

pub overflow_cast-r : goal.overflow_cast-r
overflow_cast-r g c =
    let room = owned_room (g.C.Cells.design c.args.cells.now) (g.C.Cells.wiring c.args.cells.now) (g.C.Cells.tables c.args.cells.now) c.args.globals.now.cell
    c.args.line.now.conductor 4294967295 c.requires.conductor c.requires.globals.room in
    let own = ap (λ (l : List Rect). length l) c.own-r-end.ensures.all in
    omega (arith, room, own)

pub overflow_add-first : goal.overflow_add-first
overflow_add-first g c =
    let room = owned_room (g.C.Cells.design c.args.cells.now) (g.C.Cells.wiring c.args.cells.now) (g.C.Cells.tables c.args.cells.now) c.args.globals.now.cell
    c.args.line.now.conductor 4294967295 c.requires.conductor c.requires.globals.room in
    let own = ap (λ (l : List Rect). length l) c.own-r-end.ensures.all in
    let first = c.owned_before-first.ensures in
    omega (arith, room, own, first)

pub overflow_add-globals : goal.overflow_add-globals
overflow_add-globals g c =
    let room = global_room (g.C.Cells.design c.args.cells.now) (g.C.Cells.wiring c.args.cells.now) (g.C.Cells.tables c.args.cells.now) c.args.globals.now.cell c.args.line.now.global 4294967295 c.requires.global c.requires.globals.room in
    let at = c.requires.globals.at in
    omega (arith, room, at)
