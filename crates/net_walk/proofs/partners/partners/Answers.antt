use Rattle.std.proofs.Common.{◌≡◌, ℕ, ◌≤◌, List, length, refl, arith, ap, subst}
use Rattle.geo_base.specs.declared.shapes.Rect.{Rect}
use Rattle.net_link_laws.proofs.Standing.{own_next}
use Rattle.net_link_laws.specs.Places.{owned_before}
use Rattle.net_walk.proofs.Partnering.{no_pairs, pairs_more}
use Rattle.net_walk.proofs.Walking.{next_fits}
use Rattle.net_walk.proofs.partners.partners.Goals as goal
use Rattle.net_walk.specs.Partners.{ArePartners}

pub loop-conductor-init : goal.loop-conductor-init
loop-conductor-init g c = rw c.new-pairs.ensures.items (record {
  at = (let z : ◌≡◌ {A = ℕ} 0 0 = refl in z);
  pairs = no_pairs (g.C.Cells.design c.args.cells.now) (g.C.Cells.wiring c.args.cells.now) (g.C.Cells.tables c.args.cells.now) c.args.cell c.args.from;
})

pub push_partners-requires-clause-known : goal.push_partners-requires-clause-known
push_partners-requires-clause-known g c =
    let e = c.conductors-conductor-end.ensures in
    let lt = c.loop-conductor-test.true in
    omega (arith, e, lt)

pub overflow_cast-at : goal.overflow_cast-at
overflow_cast-at g c =
    let t = g.C.Cells.tables c.args.cells.now in
    let n = length (g.C.Cells.wiring c.args.cells.now).conductors in
    let from = c.requires.from in
    let room = c.requires.room in
    let below : owned_before t c.args.cell n ≤ 4294967295 = omega (arith, from, room) in
    let fits = next_fits t c.args.cell c.loop-conductor.conductor n c.conductors-conductor-end.result c.own.result.now c.loop-conductor.at c.conductors-conductor-end.ensures c.loop-conductor-test.true c.own.ensures.all c.loop-conductor.invariant.at below in
    omega (arith, fits)

pub overflow_add-at : goal.overflow_add-at
overflow_add-at g c =
    let t = g.C.Cells.tables c.args.cells.now in
    let n = length (g.C.Cells.wiring c.args.cells.now).conductors in
    let from = c.requires.from in
    let room = c.requires.room in
    let below : owned_before t c.args.cell n ≤ 4294967295 = omega (arith, from, room) in
    let fits = next_fits t c.args.cell c.loop-conductor.conductor n c.conductors-conductor-end.result c.own.result.now c.loop-conductor.at c.conductors-conductor-end.ensures c.loop-conductor-test.true c.own.ensures.all c.loop-conductor.invariant.at below in
    omega (arith, fits)

pub loop-conductor-preserved : goal.loop-conductor-preserved
loop-conductor-preserved g c =
    let t = g.C.Cells.tables c.args.cells.now in
    let k = c.loop-conductor.conductor in
    let next = own_next t c.args.cell k in
    let e = ap (λ (l : List Rect). length l) c.own.ensures.all in
    let i = c.loop-conductor.invariant.at in
    record {
      at = omega (arith, next, e, i);
      pairs = pairs_more (g.C.Cells.design c.args.cells.now) (g.C.Cells.wiring c.args.cells.now) t c.args.cell c.args.from k c.loop-conductor.pairs.items c.push_partners.new.out.items c.loop-conductor.invariant.pairs c.in_ok-push_partners.ensures;
    }

pub push_partners-requires-clause-spans : goal.push_partners-requires-clause-spans
push_partners-requires-clause-spans g c = record { pieces = rw c.deref.ensures.value c.in_ok-pieces.ensures; from = c.requires.from; room = c.requires.room }

pub returns : goal.returns
returns g c =
    let d = g.C.Cells.design c.args.cells.now in
    let w = g.C.Cells.wiring c.args.cells.now in
    let t = g.C.Cells.tables c.args.cells.now in
    let conductors = c.conductors-conductor-end.ensures in
    let end : c.loop-conductor.conductor ≡ length w.conductors = omega (arith, conductors) in
    subst (λ n. ArePartners d w t c.args.cell c.args.from n c.loop-conductor.pairs.items) end c.loop-conductor.invariant.pairs
