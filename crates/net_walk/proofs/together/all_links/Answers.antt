use Rattle.std.proofs.Common.{arith}
use Rattle.net_link_laws.proofs.Standing.{items_long}
use Rattle.net_walk.proofs.Uniting.{united}
use Rattle.net_walk.proofs.together.all_links.Goals as goal

pub own_links-requires-clause-room : goal.own_links-requires-clause-room
own_links-requires-clause-room g c =
    let d = g.C.Cells.design c.args.cells.now in
    let w = g.C.Cells.wiring c.args.cells.now in
    let t = g.C.Cells.tables c.args.cells.now in
    let cell = c.args.cell in
    let long = items_long d w t cell in
    let items = c.requires.items in
    let globals = c.requires.globals in
    let fits = c.ranges.items.fits in
    omega (arith, long, items, fits)

pub overflow_sub-globals : goal.overflow_sub-globals
overflow_sub-globals g c =
    let d = g.C.Cells.design c.args.cells.now in
    let w = g.C.Cells.wiring c.args.cells.now in
    let t = g.C.Cells.tables c.args.cells.now in
    let cell = c.args.cell in
    let long = items_long d w t cell in
    let items = c.requires.items in
    let globals = c.requires.globals in
    omega (arith, long, items, globals)

pub children_links-requires : goal.children_links-requires
children_links-requires g c = record {
  site = record {
    right = c.requires.right;
    firsts = rw c.deref.ensures.value c.in_ok-firsts.ensures;
    room = (let items = c.requires.items in let fits = c.ranges.items.fits in omega (arith, items, fits));
    joins = c.requires.joins;
  };
}

pub global_links-requires-clause-globals : goal.global_links-requires-clause-globals
global_links-requires-clause-globals g c =
    let d = g.C.Cells.design c.args.cells.now in
    let w = g.C.Cells.wiring c.args.cells.now in
    let t = g.C.Cells.tables c.args.cells.now in
    let cell = c.args.cell in
    let long = items_long d w t cell in
    let items = c.requires.items in
    let globals = c.requires.globals in
    let fits = c.ranges.items.fits in
    record { count = globals; at = omega (arith, long, items, globals); room = omega (arith, items, fits) }

pub returns : goal.returns
returns g c =
    let d = g.C.Cells.design c.args.cells.now in
    let w = g.C.Cells.wiring c.args.cells.now in
    let t = g.C.Cells.tables c.args.cells.now in
    let cell = c.args.cell in
    let long = items_long d w t cell in
    let items = c.requires.items in
    let globals = c.requires.globals in
    united d w t cell c.in_ok-links.links.items c.children_links.new.out.items c.all_beside.new.out.items c.global_links.new.out.items c.in_ok-links.ensures c.in_ok-children_links.ensures c.in_ok-all_beside.ensures c.in_ok-global_links.ensures
