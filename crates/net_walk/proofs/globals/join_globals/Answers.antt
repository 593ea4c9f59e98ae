use Rattle.std.proofs.Common.{◌+◌, ◌-◌, length, get_or, arith}
use Rattle.link_classes.specs.declared.classes.Link.{Link}
use Rattle.net_walk.proofs.Grounding.{base_fits, base_read, global_room, globals_more, globals_whole, net_within, no_global_yet}
use Rattle.net_walk.proofs.Spanning.{child_room}
use Rattle.net_walk.proofs.globals.join_globals.Goals as goal
use Rattle.net_walk.specs.Walk.{place_of}

pub overflow_sub-base : goal.overflow_sub-base
overflow_sub-base g c =
    let fits = base_fits (g.C.Cells.design c.args.cells.now) (g.C.Cells.wiring c.args.cells.now) (g.C.Cells.tables c.args.cells.now) c.args.globals.now.cell c.args.number (place_of c.args.placed.now.element.now) c.requires.placed c.requires.nets
    c.net_of-net_of.result.now c.args.globals.now.count c.net_of-net_of.ensures c.requires.globals.count in
    omega (arith, fits)

pub loop-g-init : goal.loop-g-init
loop-g-init g c = no_global_yet (g.C.Cells.design c.args.cells.now) (g.C.Cells.wiring c.args.cells.now) (g.C.Cells.tables c.args.cells.now) c.args.globals.now.cell c.args.number (place_of c.args.placed.now.element.now) c.requires.placed c.requires.nets c.args.out.now.items

pub loop-g-preserved : goal.loop-g-preserved
loop-g-preserved g c =
    let same = base_read (g.C.Cells.design c.args.cells.now) (g.C.Cells.wiring c.args.cells.now) (g.C.Cells.tables c.args.cells.now) c.args.globals.now.cell c.args.number (place_of c.args.placed.now.element.now) c.requires.placed c.requires.nets
    c.net_of-net_of.result.now c.args.globals.now.count c.loop-g.g c.net_of-net_of.ensures c.requires.globals.count in
    let globals = c.requires.globals.count in
    let at = c.requires.globals.at in
    let first = c.requires.first in
    let k = c.loop-g.g in
    let net_of = c.net_of-net_of.result.now in
    let link : Link = record { one = c.args.placed.now.at + get_or net_of ((length net_of - c.args.globals.now.count) + k) 0; other = c.args.globals.now.at + k } in
    rw c.in_ok-push.ensures.items
    (globals_more (g.C.Cells.design c.args.cells.now) (g.C.Cells.wiring c.args.cells.now) (g.C.Cells.tables c.args.cells.now) c.args.globals.now.cell c.args.number (place_of c.args.placed.now.element.now) c.requires.placed c.requires.nets k c.args.out.now.items c.loop-g.out.items link
    (omega (arith, globals)) (omega (arith, first, same)) (omega (arith, at)) c.loop-g.invariant)

pub returns : goal.returns
returns g c =
    let globals = c.requires.globals.count in
    globals_whole (g.C.Cells.design c.args.cells.now) (g.C.Cells.wiring c.args.cells.now) (g.C.Cells.tables c.args.cells.now) c.args.globals.now.cell c.args.number (place_of c.args.placed.now.element.now) c.requires.placed c.requires.nets c.loop-g.g c.args.out.now.items c.loop-g.out.items
    (omega (arith, globals)) c.loop-g.invariant

pub bounds-net_of-base : goal.bounds-net_of-base
bounds-net_of-base g c =
    let fits = base_fits (g.C.Cells.design c.args.cells.now) (g.C.Cells.wiring c.args.cells.now) (g.C.Cells.tables c.args.cells.now) c.args.globals.now.cell c.args.number (place_of c.args.placed.now.element.now) c.requires.placed c.requires.nets
    c.net_of-net_of.result.now c.args.globals.now.count c.net_of-net_of.ensures c.requires.globals.count in
    omega (arith, fits)

pub overflow_add-placed : goal.overflow_add-placed
overflow_add-placed g c =
    let same = base_read (g.C.Cells.design c.args.cells.now) (g.C.Cells.wiring c.args.cells.now) (g.C.Cells.tables c.args.cells.now) c.args.globals.now.cell c.args.number (place_of c.args.placed.now.element.now) c.requires.placed c.requires.nets
    c.net_of-net_of.result.now c.args.globals.now.count c.loop-g.g c.net_of-net_of.ensures c.requires.globals.count in
    let globals = c.requires.globals.count in
    let within = net_within (g.C.Cells.design c.args.cells.now) (g.C.Cells.wiring c.args.cells.now) (g.C.Cells.tables c.args.cells.now) c.args.globals.now.cell c.args.number (place_of c.args.placed.now.element.now) c.requires.placed c.requires.nets c.loop-g.g (omega (arith, globals)) in
    let room = child_room (g.C.Cells.design c.args.cells.now) (g.C.Cells.wiring c.args.cells.now) (g.C.Cells.tables c.args.cells.now) c.args.globals.now.cell c.args.number (place_of c.args.placed.now.element.now) c.requires.placed in
    let all = c.requires.globals.room in
    let first = c.requires.first in
    omega (arith, same, within, room, all, first)

pub overflow_add-globals : goal.overflow_add-globals
overflow_add-globals g c =
    let globals = c.requires.globals.count in
    let room = global_room (g.C.Cells.design c.args.cells.now) (g.C.Cells.wiring c.args.cells.now) (g.C.Cells.tables c.args.cells.now) c.args.globals.now.cell c.loop-g.g 4294967295 (omega (arith, globals)) c.requires.globals.room in
    let at = c.requires.globals.at in
    omega (arith, room, at)
