use Rattle.std.proofs.Common.{false, get_or, pos, refl}
use Rattle.std.proofs.lemmas.Option.{slice_get-get_or, slice_get_within}
use Rattle.geo_base.specs.declared.motion.Turn.TheVariants.{R0}
use Rattle.net_walk.specs.declared.cells.Element.{Element}
use Rattle.pin_phase.specs.Links.{lists_of}
use Rattle.pin_phase.proofs.Linking.{child_put}
use Rattle.pin_phase.proofs.links.push_item.Goals as goal

abbrev no_element : Element
no_element = record { cell = 0; motion = record { turn = R0; dx = pos 0; dy = pos 0 } }

pub returns-in_ok-put_link : goal.returns-in_ok-put_link
returns-in_ok-put_link c =
    let elements = c.args.elements.now in let net_of = c.args.net_of.now in let busy = c.args.busy.now in
    let place = c.in-Child.place in let i = c.args.i in
    let above = get_or net_of i 0 in
    let child = c.requires.child place c.in-Child.net c.in-Child.is in
    let within = slice_get_within elements place child.0 child.1 in
    child_put c.args.job elements net_of (λ x. get_or busy x false) i c.args.item place c.in-Child.net above (get_or elements place no_element) (get_or busy above false) (lists_of c.args.lists.now.items) (lists_of c.put_link.new.lists.items)
    c.in-Child.is (slice_get-get_or elements place no_element within) (slice_get-get_or net_of i 0 c.requires.inside) refl c.in_ok-put_link.ensures
