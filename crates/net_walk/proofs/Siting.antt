-- The placements of a cell whose links are sought.
use Rattle.std.proofs.Common.{◌≡◌, ◌<◌, ◌≤◌, ◌+◌, ℕ, List, Some, slice_get, get_or, length, map, arith}
use Rattle.flat_laws.proofs.Items.{placed_at}
use Rattle.flat_layout.specs.Layout.{Design, Place}
use Rattle.flat_layout.specs.Nets.{Tables}
use Rattle.flat_layout.specs.Regions.{Wiring}
use Rattle.geo_base.specs.Near.{IsNearMotion}
use Rattle.net_link_laws.specs.Laws.{AreNetsUnder}
use Rattle.net_link_laws.specs.Places.{places_of}
use Rattle.net_walk.proofs.Spanning.{child_room}
use Rattle.net_walk.proofs.Walking.{as_long, element_at, near_at, no_element}
use Rattle.net_walk.specs.Placed.{IsLinkable}
use Rattle.net_walk.specs.Walk.{AreClose, place_of}
use Rattle.net_walk.specs.declared.cells.Element.{Element}
use Rattle.net_walk.specs.declared.placed.LinkSite.{LinkSite}

-- its nets are right, and have numbers from its place on
pub placed_nets : (d : Design) (w : Wiring) (t : Tables) (s : LinkSite) (es : List Element) (k : ℕ) → IsLinkable d w t s → map place_of es ≡ places_of d s.cell → AreClose es → k < length (places_of d s.cell)
    → AreNetsUnder d w t (get_or es k no_element).cell × IsNearMotion (get_or es k no_element).motion × (get_or s.firsts.now k 0 + (t.nets (get_or es k no_element).cell).count ≤ 4294967296)
placed_nets d w t s es k is all close lt =
    let long = as_long es (places_of d s.cell) all in
    let p : Place = place_of (get_or es k no_element) in
    let there : slice_get (places_of d s.cell) k ≡ Some p = element_at es (places_of d s.cell) k all (omega (arith, long, lt)) in
    let fits = child_room d w t s.cell k p there in
    let wide = is.firsts.long in
    let within : k < length s.firsts.now = omega (arith, wide, lt) in
    let first = is.firsts.each k within in
    let room = is.room in
    ((λ e u. is.right.nets k e p (placed_at d s.cell k p there) u), near_at es k close (omega (arith, long, lt)), omega (arith, fits, first, room))
