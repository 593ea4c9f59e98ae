use Rattle.cell_graph.specs.Linked.{plain}
use Rattle.net_phase.proofs.Linking.{beside_on}
use Rattle.net_phase.proofs.linked.square_links.Goals as goal
use Rattle.net_phase.specs.Below.{tables_seen, wiring_seen}

pub returns : goal.returns
returns g c =
    let v = c.args.below.now in
    let apart = c.in_ok-kinds.kinds.0.items in
    let both = c.in_ok-kinds.ensures in
    rw (c.in_ok-extend_from_slice.ensures.items, c.deref.ensures.value)
    (apart, both.apart, beside_on (plain v.design) (wiring_seen v) (tables_seen v) c.args.site.now.cell apart c.in_ok-kinds.kinds.1.items both.beside)
