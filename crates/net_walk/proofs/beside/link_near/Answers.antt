use Rattle.std.proofs.Common.{◌≡◌, ◌<◌, Some, slice_get, get_or, length, arith, sym, subst}
use Rattle.flat_layout.specs.Layout.{Place}
use Rattle.std.proofs.Common.{ℕ, ◌+◌}
use Rattle.net_link_laws.specs.Places.{owned_before, places_of}
use Rattle.net_walk.proofs.Besides.{piece_added}
use Rattle.net_walk.proofs.OwnBeside.{beside_pair}
use Rattle.net_walk.proofs.Siting.{placed_nets}
use Rattle.net_walk.proofs.Walking.{element_at, as_long, no_element}
use Rattle.net_walk.proofs.beside.link_near.Goals as goal
use Rattle.net_walk.specs.Beside.{IsBesideSeen}
use Rattle.net_walk.specs.Pairs.{first_of}
use Rattle.net_walk.specs.Seen.{AreLinksOver}
use Rattle.net_walk.specs.Walk.{place_of}
use Rattle.std.proofs.lemmas.Option.{slice_get_within}

pub beside_links-requires-clause-near : goal.beside_links-requires-clause-near
beside_links-requires-clause-near g c = c.sound.ensures.own.near c.args.site.now.cell c.args.piece.now.conductor c.requires.piece.number c.args.piece.now.rect c.requires.piece.listed

pub beside_links-requires-clause-placed : goal.beside_links-requires-clause-placed
beside_links-requires-clause-placed g c =
    let h = placed_nets (g.C.Cells.design c.args.cells.now) (g.C.Cells.wiring c.args.cells.now) (g.C.Cells.tables c.args.cells.now) c.args.site.now c.places-elements.result.now c.args.number c.requires.site c.places-elements.ensures.all c.places-elements.ensures.close c.requires.number in
    record { nets = h.0; motion = h.1; room = h.2 }

pub returns : goal.returns
returns g c =
    let d = g.C.Cells.design c.args.cells.now in
    let w = g.C.Cells.wiring c.args.cells.now in
    let t = g.C.Cells.tables c.args.cells.now in
    let n = length w.conductors in
    let cell = c.args.site.now.cell in
    let es = c.places-elements.result.now in
    let k = c.args.number in
    let o = c.args.piece.now in
    let is = c.requires.piece in
    let long = as_long es (places_of d cell) c.places-elements.ensures.all in
    let lt = c.requires.number in
    let p : Place = place_of (get_or es k no_element) in
    let there : slice_get (places_of d cell) k ≡ Some p = element_at es (places_of d cell) k c.places-elements.ensures.all (omega (arith, long, lt)) in
    let wide = c.requires.site.firsts.long in
    let within : k < length c.args.site.now.firsts.now = omega (arith, wide, lt) in
    let first = c.requires.site.firsts.each k within in
    let links = c.in_ok-links.links.items in
    let over : AreLinksOver c.args.site.now.joins.now (IsBesideSeen d t c.args.site.now.joins.now o.rect o.conductor (owned_before t cell o.conductor + is.number) n p (first_of d w t cell k)) links =
    subst (λ (i : ℕ). AreLinksOver c.args.site.now.joins.now (IsBesideSeen d t c.args.site.now.joins.now o.rect o.conductor i n p (first_of d w t cell k)) links) (sym is.place)
    (subst (λ (i : ℕ). AreLinksOver c.args.site.now.joins.now (IsBesideSeen d t c.args.site.now.joins.now o.rect o.conductor o.item n p i) links) first c.in_ok-links.ensures) in
    let all = beside_pair d w t cell o.conductor is.number k p o.rect c.args.site.now.joins.now links c.requires.site.right (is.known, slice_get_within (t.own cell o.conductor) is.number o.rect is.listed) is.listed there c.requires.site.joins over in
    rw (c.in_ok-extend_from_slice.ensures.items, c.deref.ensures.value) (piece_added d w t cell n o k c.args.out.now.items links is all)
