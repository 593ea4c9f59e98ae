use Rattle.std.proofs.Common.{◌≡◌, ◌+◌, ◌<◌, ◌≤◌, ℕ, List, Some, slice_get, get_or, length, map, subst, arith}
use Rattle.flat_laws.proofs.Items.{placed_at}
use Rattle.flat_layout.specs.Layout.{Design, Place}
use Rattle.flat_layout.specs.Nets.{AreRightBelow, Tables, items_of}
use Rattle.flat_layout.specs.Regions.{Wiring}
use Rattle.link_classes.specs.declared.classes.Link.{Link}
use Rattle.net_link_laws.specs.Laws.{AreNetsUnder}
use Rattle.net_link_laws.specs.Places.{places_of}
use Rattle.net_walk.proofs.Contacting.{first_below, replayed_pair, second_below}
use Rattle.net_walk.proofs.Spanning.{child_room}
use Rattle.net_walk.proofs.Walking.{element_at, as_long, close_at, no_element}
use Rattle.net_walk.proofs.children.link_numbers.Goals as goal
use Rattle.net_walk.specs.Contacts.{AreContacts, IsFromTo}
use Rattle.net_walk.specs.Pairs.{first_of}
use Rattle.net_walk.specs.Walk.{AreClose, IsClose, place_of}
use Rattle.net_walk.specs.declared.cells.Element.{Element}

at_place : (es : List Element) (ps : List Place) (k : ℕ) → map place_of es ≡ ps → k < length ps → slice_get ps k ≡ Some (place_of (get_or es k no_element))
at_place es ps k e lt = let long = as_long es ps e in element_at es ps k e (omega (arith, long, lt))

close_place : (es : List Element) (ps : List Place) (k : ℕ) → map place_of es ≡ ps → AreClose es → k < length ps → IsClose (get_or es k no_element).motion
close_place es ps k e close lt = let long = as_long es ps e in close_at es k close (omega (arith, long, lt))

nets_at : (d : Design) (w : Wiring) (t : Tables) (cell k : ℕ) (p : Place) → AreRightBelow d w t cell → slice_get (places_of d cell) k ≡ Some p → AreNetsUnder d w t p.cell
nets_at d w t cell k p right there = λ e u. right.nets k e p (placed_at d cell k p there) u

pub beside_of-requires-clause-nets : goal.beside_of-requires-clause-nets
beside_of-requires-clause-nets g c =
    let d = g.C.Cells.design c.args.cells.now in
    let es = c.places-elements.result.now in let k = c.args.pair.now.one in
    nets_at d (g.C.Cells.wiring c.args.cells.now) (g.C.Cells.tables c.args.cells.now) c.args.site.now.cell k (place_of (get_or es k no_element)) c.requires.site.right (at_place es (places_of d c.args.site.now.cell) k c.places-elements.ensures.all c.requires.one)

pub beside_of-requires-clause-nets_too : goal.beside_of-requires-clause-nets_too
beside_of-requires-clause-nets_too g c =
    let d = g.C.Cells.design c.args.cells.now in
    let es = c.places-elements.result.now in let k = c.args.pair.now.other in
    nets_at d (g.C.Cells.wiring c.args.cells.now) (g.C.Cells.tables c.args.cells.now) c.args.site.now.cell k (place_of (get_or es k no_element)) c.requires.site.right (at_place es (places_of d c.args.site.now.cell) k c.places-elements.ensures.all c.requires.other)

pub beside_of-requires-clause-close : goal.beside_of-requires-clause-close
beside_of-requires-clause-close g c =
    close_place c.places-elements.result.now (places_of (g.C.Cells.design c.args.cells.now) c.args.site.now.cell) c.args.pair.now.one c.places-elements.ensures.all c.places-elements.ensures.close c.requires.one

pub beside_of-requires-clause-close_too : goal.beside_of-requires-clause-close_too
beside_of-requires-clause-close_too g c =
    close_place c.places-elements.result.now (places_of (g.C.Cells.design c.args.cells.now) c.args.site.now.cell) c.args.pair.now.other c.places-elements.ensures.all c.places-elements.ensures.close c.requires.other

-- items of two placements' nets that are in contact
room_for : (d : Design) (w : Wiring) (t : Tables) (cell k l : ℕ) (es : List Element) (firsts : List ℕ) (contacts read : List Link) → map place_of es ≡ places_of d cell → k < length (places_of d cell) → l < length (places_of d cell)
    → AreRightBelow d w t cell → length firsts ≡ length (places_of d cell) → ((k : ℕ) → k < length firsts → get_or firsts k 0 ≡ first_of d w t cell k) → length (items_of d w t cell) ≤ 4294967295 → read ≡ contacts
    → AreContacts d w t (place_of (get_or es k no_element)) (place_of (get_or es l no_element)) contacts → (x y : ℕ) → IsFromTo read x y → (get_or firsts k 0 + x < 4294967296) × (get_or firsts l 0 + y < 4294967296)
room_for d w t cell k l es firsts contacts read all one other right long firsts_are room is are x y from =
    let p : Place = place_of (get_or es k no_element) in
    let q : Place = place_of (get_or es l no_element) in
    let there = at_place es (places_of d cell) k all one in
    let there_too = at_place es (places_of d cell) l all other in
    let nets = nets_at d w t cell k p right there in
    let nets_too = nets_at d w t cell l q right there_too in
    let m = are.each x y (subst (λ (ls : List Link). IsFromTo ls x y) is from) in
    let lt = first_below d w t p q nets nets_too m.c x m.m m.held in
    let lt_too = second_below d w t p q nets nets_too m.e y m.n m.others in
    let fits = child_room d w t cell k p there in
    let fits_too = child_room d w t cell l q there_too in
    let first = firsts_are k (omega (arith, long, one)) in
    let second = firsts_are l (omega (arith, long, other)) in
    (omega (arith, fits, first, room, lt), omega (arith, fits_too, second, room, lt_too))

pub replay-requires-clause-room : goal.replay-requires-clause-room
replay-requires-clause-room g c = λ x y from. (room_for (g.C.Cells.design c.args.cells.now) (g.C.Cells.wiring c.args.cells.now) (g.C.Cells.tables c.args.cells.now) c.args.site.now.cell c.args.pair.now.one c.args.pair.now.other c.places-elements.result.now c.args.site.now.firsts.now
    c.in_ok-beside.beside.contacts.items c.deref.result.now c.places-elements.ensures.all c.requires.one c.requires.other c.requires.site.right c.requires.site.firsts.long c.requires.site.firsts.each c.requires.site.room c.deref.ensures.value
    (c.in_ok-beside.ensures.is _ _ c.in_ok-beside.ensures.lie) x y from).0

pub replay-requires-clause-room_too : goal.replay-requires-clause-room_too
replay-requires-clause-room_too g c = λ x y from. (room_for (g.C.Cells.design c.args.cells.now) (g.C.Cells.wiring c.args.cells.now) (g.C.Cells.tables c.args.cells.now) c.args.site.now.cell c.args.pair.now.one c.args.pair.now.other c.places-elements.result.now c.args.site.now.firsts.now
    c.in_ok-beside.beside.contacts.items c.deref.result.now c.places-elements.ensures.all c.requires.one c.requires.other c.requires.site.right c.requires.site.firsts.long c.requires.site.firsts.each c.requires.site.room c.deref.ensures.value
    (c.in_ok-beside.ensures.is _ _ c.in_ok-beside.ensures.lie) x y from).1

pub returns-clause-links : goal.returns-clause-links
returns-clause-links g c =
    let d = g.C.Cells.design c.args.cells.now in let w = g.C.Cells.wiring c.args.cells.now in let t = g.C.Cells.tables c.args.cells.now in
    let cell = c.args.site.now.cell in
    let es = c.places-elements.result.now in let k = c.args.pair.now.one in let l = c.args.pair.now.other in
    let p : Place = place_of (get_or es k no_element) in let q : Place = place_of (get_or es l no_element) in
    let there = at_place es (places_of d cell) k c.places-elements.ensures.all c.requires.one in
    let there_too = at_place es (places_of d cell) l c.places-elements.ensures.all c.requires.other in
    let contacts = c.in_ok-beside.beside.contacts.items in
    let are : AreContacts d w t p q contacts = c.in_ok-beside.ensures.is p q c.in_ok-beside.ensures.lie in
    let long = c.requires.site.firsts.long in let one = c.requires.one in let other = c.requires.other in
    let at = c.requires.site.firsts.each k (omega (arith, long, one)) in
    let other_at = c.requires.site.firsts.each l (omega (arith, long, other)) in
    replayed_pair d w t cell k l p q contacts (get_or c.args.site.now.firsts.now k 0) (get_or c.args.site.now.firsts.now l 0) c.args.out.now.items c.replay.new.out.items c.requires.site.right there there_too are at other_at
    (rw c.deref.ensures.value at c.in_ok-replay.ensures)
