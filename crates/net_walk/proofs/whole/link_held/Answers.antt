use Rattle.std.proofs.Common.{[], refl, arith}
use Rattle.flat_layout.specs.Nets.{AreNets}
use Rattle.net_walk.proofs.Holding.{held_at}
use Rattle.net_walk.proofs.Wholes.{list_held}
use Rattle.net_walk.proofs.whole.link_held.Goals as goal

pub push_links-requires : goal.push_links-requires
push_links-requires g c =
    let d = g.C.Cells.design c.args.cells.now in
    let w = g.C.Cells.wiring c.args.cells.now in
    let t = g.C.Cells.tables c.args.cells.now in
    let cell = c.args.placed.now.element.now.cell in
    let found = c.in_ok-position.ensures in
    let at_position = rw c.deref.ensures.value at c.nets_at-nets.ensures in
    let nets : AreNets d w t cell (t.nets cell) = c.requires.placed.nets cell ([], refl) in
    let held = held_at d t c.hold.new.memo.lists.items cell c.args.conductor c.in_ok-position.position c.nets_at-nets.result.now found.lists found.at at_position in
    let room = c.requires.placed.room in
    λ x o.
    let h = (held x).0 o in
    let lt = nets.below h.1.index x h.1.is_of.numbered in
    omega (arith, lt, room)

pub returns-clause-links : goal.returns-clause-links
returns-clause-links g c =
    let d = g.C.Cells.design c.args.cells.now in
    let t = g.C.Cells.tables c.args.cells.now in
    let cell = c.args.placed.now.element.now.cell in
    let found = c.in_ok-position.ensures in
    let at_position = rw c.deref.ensures.value at c.nets_at-nets.ensures in
    let held = held_at d t c.hold.new.memo.lists.items cell c.args.conductor c.in_ok-position.position c.nets_at-nets.result.now found.lists found.at at_position in
    list_held d t c.args.item cell c.args.conductor c.args.placed.now.at c.nets_at-nets.result.now c.args.out.now.items c.push_links.new.out.items held c.in_ok-push_links.ensures
