use Rattle.std.proofs.Common.{List, length, sym, subst}
use Rattle.cell_graph.specs.Linked.{plain}
use Rattle.flat_layout.specs.Nets.{AreNets, Item, items_of}
use Rattle.link_classes.specs.Classes.{AreClasses}
use Rattle.net_link_laws.proofs.Assembling.{all_found}
use Rattle.net_link_laws.proofs.Numbering.{classes}
use Rattle.net_phase.proofs.phase.cell_nets.Goals as goal
use Rattle.net_phase.proofs.Results.{found_in_range}
use Rattle.net_phase.specs.Below.{tables_seen, wiring_seen}

pub joined_classes-requires : goal.joined_classes-requires
joined_classes-requires g c =
    let v = c.args.below.now in
    let all = c.in_ok-links.ensures in
    rw (c.deref.ensures.value, c.in_ok-count.ensures.count) (found_in_range (plain v.design) (wiring_seen v) (tables_seen v) c.args.cell c.in_ok-links.links.items all)

pub returns : goal.returns
returns g c =
    let v = c.args.below.now in
    let d = plain v.design in
    let w = wiring_seen v in
    let t = tables_seen v in
    let cell = c.args.cell in
    let links = c.in_ok-links.links.items in
    let all = c.in_ok-links.ensures in
    let class_of = c.in_ok-classes.classes.class_of.items in
    let count = c.in_ok-classes.classes.count in
    let found = all_found d w t cell links c.requires.right all in
    let made : AreClasses (length (items_of d w t cell)) links class_of count = rw (c.deref.ensures.value, c.in_ok-count.ensures.count) at c.in_ok-classes.ensures in
    let nets : AreNets d w t cell (record { items = items_of d w t cell; net_of = class_of; count = count }) = classes d w t cell links class_of count c.requires.right found made in
    subst (λ (l : List Item). AreNets d w t cell (record { items = l; net_of = class_of; count = count })) (sym c.in_ok-items.ensures) nets
