use Rattle.std.proofs.Common.{◌≡◌, ◌<◌, ◌^◌, ◌∙◌, ℕ, List, length, ap, arith, subst, sym, []}
use Rattle.geo_base.specs.declared.shapes.Rect.{Rect}
use Rattle.net_link_laws.proofs.Standing.{own_next}
use Rattle.net_link_laws.specs.Places.{owned_before}
use Rattle.net_walk.proofs.Owning.{none_owned, owned_more}
use Rattle.net_walk.proofs.Placing.{owned_next}
use Rattle.net_walk.proofs.Walking.{next_fits}
use Rattle.net_walk.proofs.own.own_pieces.Goals as goal
use Rattle.net_walk.specs.Owned.{IsOwned, owned_pieces}
use Rattle.net_walk.specs.Seen.{AddsSeen}

pub owned_before-count-requires : goal.owned_before-count-requires
owned_before-count-requires g c =
    let t = g.C.Cells.tables c.args.cells.now in
    let r = c.requires in
    let e : c.conductors.result ≡ length (g.C.Cells.wiring c.args.cells.now).conductors = c.conductors.ensures in
    subst (λ n. owned_before t c.args.cell n < 2 ^ 64) (sym e) (omega (arith, r))

pub push_rects-requires-clause-room : goal.push_rects-requires-clause-room
push_rects-requires-clause-room g c =
    let fits = next_fits (g.C.Cells.tables c.args.cells.now) c.args.cell c.loop-conductor.conductor (length (g.C.Cells.wiring c.args.cells.now).conductors) c.conductors-conductor-end.result
    c.own-own.result.now c.loop-conductor.at c.conductors-conductor-end.ensures c.loop-conductor-test.true c.own-own.ensures.all c.loop-conductor.invariant.at c.requires in
    omega (arith, fits)

pub overflow_cast-at : goal.overflow_cast-at
overflow_cast-at g c =
    let fits = next_fits (g.C.Cells.tables c.args.cells.now) c.args.cell c.loop-conductor.conductor (length (g.C.Cells.wiring c.args.cells.now).conductors) c.conductors-conductor-end.result
    c.own-own.result.now c.loop-conductor.at c.conductors-conductor-end.ensures c.loop-conductor-test.true c.own-own.ensures.all c.loop-conductor.invariant.at c.requires in
    omega (arith, fits)

pub overflow_add-at : goal.overflow_add-at
overflow_add-at g c =
    let fits = next_fits (g.C.Cells.tables c.args.cells.now) c.args.cell c.loop-conductor.conductor (length (g.C.Cells.wiring c.args.cells.now).conductors) c.conductors-conductor-end.result
    c.own-own.result.now c.loop-conductor.at c.conductors-conductor-end.ensures c.loop-conductor-test.true c.own-own.ensures.all c.loop-conductor.invariant.at c.requires in
    omega (arith, fits)

pub loop-conductor-init : goal.loop-conductor-init
loop-conductor-init g c = record { at = (let z : 0 ≡ 0 = omega arith in z); so_far = rw c.in_ok-out.ensures.items (none_owned (g.C.Cells.tables c.args.cells.now) c.args.cell); list = c.in_ok-out.ensures.items }

pub loop-conductor-preserved : goal.loop-conductor-preserved
loop-conductor-preserved g c =
    let t = g.C.Cells.tables c.args.cells.now in
    let k = c.loop-conductor.conductor in
    let next = own_next t c.args.cell k in
    let e = ap (λ (l : List Rect). length l) c.own-own.ensures.all in
    let i = c.loop-conductor.invariant.at in
    let added = rw c.own-own.ensures.all at c.in_ok-push_rects.ensures.seen in
    let list = rw (c.own-own.ensures.all, i, c.loop-conductor.invariant.list) at c.in_ok-push_rects.ensures.list in
    record { at = omega (arith, next, e, i); so_far = owned_more t c.args.cell k c.loop-conductor.at [] c.loop-conductor.out.items c.push_rects.new.out.items i c.loop-conductor.invariant.so_far added; list = list ∙ owned_next t c.args.cell k }

pub returns-clause-list : goal.returns-clause-list
returns-clause-list g c =
    let conductors = c.conductors-conductor-end.ensures in
    let end : c.loop-conductor.conductor ≡ length (g.C.Cells.wiring c.args.cells.now).conductors = omega (arith, conductors) in
    c.loop-conductor.invariant.list ∙ ap (owned_pieces (g.C.Cells.tables c.args.cells.now) c.args.cell) end

pub returns-clause-seen : goal.returns-clause-seen
returns-clause-seen g c =
    let conductors = c.conductors-conductor-end.ensures in
    let end : c.loop-conductor.conductor ≡ length (g.C.Cells.wiring c.args.cells.now).conductors = omega (arith, conductors) in
    subst (λ (n : ℕ). AddsSeen (IsOwned (g.C.Cells.tables c.args.cells.now) c.args.cell n) [] c.loop-conductor.out.items) end c.loop-conductor.invariant.so_far
