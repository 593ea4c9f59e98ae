use Rattle.std.proofs.Common.{arith}
use Rattle.cell_graph.specs.Linked.{plain}
use Rattle.net_link_laws.proofs.Standing.{items_long}
use Rattle.net_phase.proofs.Linking.{children_on}
use Rattle.net_phase.proofs.linked.apart_links.Goals as goal
use Rattle.net_phase.specs.Below.{tables_seen, wiring_seen}

pub own_links-requires-clause-room : goal.own_links-requires-clause-room
own_links-requires-clause-room g c =
    let v = c.args.below.now in
    let long = items_long (plain v.design) (wiring_seen v) (tables_seen v) c.args.site.now.cell in
    let room = c.requires.site.room in
    omega (arith, long, room)

pub returns : goal.returns
returns g c =
    let v = c.args.below.now in
    let own = c.in_ok-links.links.items in
    rw (c.in_ok-extend_from_slice.ensures.items, c.deref.ensures.value)
    (own, c.in_ok-links.ensures, children_on (plain v.design) (wiring_seen v) (tables_seen v) c.args.site.now.cell own c.in_ok-further.further.items c.in_ok-further.ensures)
