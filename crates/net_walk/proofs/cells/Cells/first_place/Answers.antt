use Rattle.std.proofs.Common.{◌≡◌, ◌<◌, ℕ, List, Some, slice_get, length, get_or, ap, arith, ◌∙◌}
use Rattle.flat_layout.specs.Layout.{Place}
use Rattle.geo_base.specs.declared.shapes.Rect.{Rect}
use Rattle.net_link_laws.proofs.Standing.{child_next, nets_none, own_next}
use Rattle.net_link_laws.specs.Places.{owned_before, places_of}
use Rattle.net_walk.proofs.Walking.{as_long, child_fits, element_at, no_element, owned_fits, owned_step}
use Rattle.net_walk.proofs.cells.Cells.first_place.Goals as goal
use Rattle.net_walk.specs.Pairs.{first_of}
use Rattle.net_walk.specs.Walk.{place_of}

pub overflow_add-at : goal.overflow_add-at
overflow_add-at g c =
    let d = g.Self.Cells.design c.args.self.now in
    let w = g.Self.Cells.wiring c.args.self.now in
    let t = g.Self.Cells.tables c.args.self.now in
    let cell = c.args.cell in
    let nets = c.requires.nets in
    let long = ap (λ (l : List ℕ). length l) c.net_of-net_of.ensures in
    let f = c.net_of-net_of.type_inv.0 in
    let fits = owned_fits d w t cell nets in
    let all = c.conductors-conductor-end.ensures in
    let lt : c.loop-conductor.conductor < length w.conductors = omega (arith, all) in
    let h = owned_step t cell c.loop-conductor.conductor (length w.conductors) lt in
    let e = ap (λ (l : List Rect). length l) c.own.ensures.all in
    let i = c.loop-conductor.invariant in
    omega (arith, fits, long, f, h, e, i)

pub loop-conductor-preserved : goal.loop-conductor-preserved
loop-conductor-preserved g c =
    let t = g.Self.Cells.tables c.args.self.now in
    let h = own_next t c.args.cell c.loop-conductor.conductor in
    let e = ap (λ (l : List Rect). length l) c.own.ensures.all in
    let i = c.loop-conductor.invariant in
    omega (arith, h, e, i)

pub loop-k-init : goal.loop-k-init
loop-k-init g c =
    let d = g.Self.Cells.design c.args.self.now in
    let w = g.Self.Cells.wiring c.args.self.now in
    let t = g.Self.Cells.tables c.args.self.now in
    let cell = c.args.cell in
    let all = c.conductors-conductor-end.ensures in
    let end : c.loop-conductor.conductor ≡ length w.conductors = omega (arith, all) in
    let e = ap (owned_before t cell) end in
    let none = nets_none t (places_of d cell) in
    let i = c.loop-conductor.invariant in
    omega (arith, none, e, i)

pub bounds-elements-k : goal.bounds-elements-k
bounds-elements-k g c =
    let all = as_long c.places-elements.result.now (places_of (g.Self.Cells.design c.args.self.now) c.args.cell) c.places-elements.ensures.all in
    let number = c.requires.number in
    omega (arith, all, number)

pub overflow_add-at-in-loop-k : goal.overflow_add-at-in-loop-k
overflow_add-at-in-loop-k g c =
    let d = g.Self.Cells.design c.args.self.now in
    let w = g.Self.Cells.wiring c.args.self.now in
    let t = g.Self.Cells.tables c.args.self.now in
    let cell = c.args.cell in
    let es = c.places-elements.result.now in
    let k = c.loop-k.k in
    let all = as_long es (places_of d cell) c.places-elements.ensures.all in
    let number = c.requires.number in
    let lt : k < length es = omega (arith, all, number) in
    let p : Place = place_of (get_or es k no_element) in
    let there : slice_get (places_of d cell) k ≡ Some p = element_at es (places_of d cell) k c.places-elements.ensures.all lt in
    let nets = c.requires.nets in
    let long = ap (λ (l : List ℕ). length l) c.net_of-net_of.ensures in
    let f = c.net_of-net_of.type_inv.0 in
    let fits = child_fits d w t cell nets k p there in
    let i = c.loop-k.invariant in
    let n = c.count.ensures in
    omega (arith, fits, long, f, i, n)

pub loop-k-preserved : goal.loop-k-preserved
loop-k-preserved g c =
    let d = g.Self.Cells.design c.args.self.now in
    let w = g.Self.Cells.wiring c.args.self.now in
    let t = g.Self.Cells.tables c.args.self.now in
    let cell = c.args.cell in
    let es = c.places-elements.result.now in
    let k = c.loop-k.k in
    let all = as_long es (places_of d cell) c.places-elements.ensures.all in
    let number = c.requires.number in
    let lt : k < length es = omega (arith, all, number) in
    let p : Place = place_of (get_or es k no_element) in
    let there : slice_get (places_of d cell) k ≡ Some p = element_at es (places_of d cell) k c.places-elements.ensures.all lt in
    let next = child_next t (places_of d cell) k p there in
    let i = c.loop-k.invariant in
    let n = c.count.ensures in
    omega (arith, next, i, n)

pub returns : goal.returns
returns g c =
    let d = g.Self.Cells.design c.args.self.now in
    let w = g.Self.Cells.wiring c.args.self.now in
    let t = g.Self.Cells.tables c.args.self.now in
    let cell = c.args.cell in
    let end : c.loop-k.k ≡ c.args.number = omega arith in
    c.loop-k.invariant ∙ ap (first_of d w t cell) end
