use Rattle.std.proofs.Common.{[], refl}
use Rattle.flat_layout.specs.Layout.{Place}
use Rattle.flat_layout.specs.Nets.{AreNets}
use Rattle.net_walk.proofs.Seeing.{have_items, of_one}
use Rattle.net_walk.proofs.seen.see_conductor.Goals as goal
use Rattle.net_walk.specs.Walk.{place_of, IsCollection}

pub push_seen-requires-clause-items : goal.push_seen-requires-clause-items
push_seen-requires-clause-items g c =
    let d = g.C.Cells.design c.args.cells.now in
    let w = g.C.Cells.wiring c.args.cells.now in
    let t = g.C.Cells.tables c.args.cells.now in
    let p : Place = place_of c.args.sight.now.placed.element.now in
    let nets : AreNets d w t p.cell (t.nets p.cell) = c.requires.sight.placed.nets p.cell ([], refl) in
    let below : IsCollection d t p.cell c.args.conductor c.args.sight.now.inner c.in_ok-below.below.items = c.in_ok-below.ensures in
    rw c.deref.ensures.value (have_items d w t p c.args.sight.now.window.now c.args.sight.now.inner c.args.sight.now.placed.at nets c.requires.sight.part c.args.conductor c.in_ok-below.below.items below.collected below.inside c.requires.sight.placed.room)

pub returns : goal.returns
returns g c =
    let d = g.C.Cells.design c.args.cells.now in
    let w = g.C.Cells.wiring c.args.cells.now in
    let t = g.C.Cells.tables c.args.cells.now in
    let p : Place = place_of c.args.sight.now.placed.element.now in
    let nets : AreNets d w t p.cell (t.nets p.cell) = c.requires.sight.placed.nets p.cell ([], refl) in
    let below : IsCollection d t p.cell c.args.conductor c.args.sight.now.inner c.in_ok-below.below.items = c.in_ok-below.ensures in
    let added = rw c.deref.ensures.value at c.in_ok-push_seen.ensures in
    of_one d w t p c.args.sight.now.window.now c.args.sight.now.inner c.args.sight.now.placed.at nets c.requires.sight.part c.args.conductor c.in_ok-below.below.items c.args.out.now.items c.push_seen.new.out.items below.collected added
