use Rattle.std.proofs.Common.{◌≡◌, ◌<◌, ◌+◌, ℕ, List, [], length, get_or, refl, sym, subst, ap, arith}
use Rattle.flat_layout.specs.Layout.{Place}
use Rattle.flat_layout.specs.Nets.{AreNets}
use Rattle.geo_base.specs.declared.shapes.Rect.{Rect}
use Rattle.net_walk.proofs.Walking.{IsVisited, near_element, own_read, own_first, child_none, child_more, below_listed, all_collected, near_at, no_element, visited_next}
use Rattle.net_walk.proofs.walk.+collect_nets.Goals as goal
use Rattle.net_walk.specs.Walk.{place_of, IsCollection}
use Rattle.net_walk.specs.Windows.{ArePlacesNear}
use Rattle.net_walk.proofs.walk.+collect_nets.Goals.{in-None, in-Some+in_ok-below-in-Some+in_ok-push_moved-in-Some}

pub owned_before-first-requires : goal.owned_before-first-requires
owned_before-first-requires g t c =
    let fits = own_read (g.C.Cells.design c.args.cells.now) (g.C.Cells.wiring c.args.cells.now) (g.C.Cells.tables c.args.cells.now) c.args.cell c.args.conductor c.net_of-net_of.result.now
    c.requires.nets c.requires.known c.net_of-net_of.ensures in
    let f = c.net_of-net_of.type_inv.0 in
    omega (arith, fits, f)

pub push_own-requires-clause-near : goal.push_own-requires-clause-near
push_own-requires-clause-near g t c = rw (c.deref.ensures.value, c.own.ensures.all) c.in_ok-own.ensures

pub push_own-requires-clause-fits : goal.push_own-requires-clause-fits
push_own-requires-clause-fits g t c =
    let fits = own_read (g.C.Cells.design c.args.cells.now) (g.C.Cells.wiring c.args.cells.now) (g.C.Cells.tables c.args.cells.now) c.args.cell c.args.conductor c.net_of-net_of.result.now
    c.requires.nets c.requires.known c.net_of-net_of.ensures in
    let own = ap (λ (l : List Rect). length l) c.own.ensures.all in
    let first = c.owned_before-first.ensures in
    omega (arith, fits, own, first)

pub loop-number-init : goal.loop-number-init
loop-number-init g t c =
    let d = g.C.Cells.design c.args.cells.now in
    let w = g.C.Cells.wiring c.args.cells.now in
    let tables = g.C.Cells.tables c.args.cells.now in
    let cell = c.args.cell in
    let nets : AreNets d w tables cell (tables.nets cell) = c.requires.nets cell ([], refl) in
    let added = rw (c.net_of-net_of.ensures, c.owned_before-first.ensures, c.own.ensures.all, c.new-out.ensures.items) at c.in_ok-push_own.ensures in
    own_first d w tables cell nets c.args.conductor c.args.window.now c.requires.known (IsVisited c.deref-number-items.result.now 0) (λ k h. let before = h.1 in absurd (omega arith)) [] c.push_own.new.out.items added

pub bounds-elements-number : goal.bounds-elements-number
bounds-elements-number g t c = (near_element (g.C.Cells.design c.args.cells.now) (g.C.Cells.wiring c.args.cells.now) (g.C.Cells.tables c.args.cells.now) c.args.cell c.args.window.now c.deref-number-items.result.now _
    c.places-elements.result.now c.loop-number.number-index c.requires.nets c.deref-number-items.ensures.value c.in_ok-near.ensures c.places-elements.ensures.all c.loop-number-test.true).inside

pub part_of-requires-clause-motion : goal.part_of-requires-clause-motion
part_of-requires-clause-motion g t c =
    let it = near_element (g.C.Cells.design c.args.cells.now) (g.C.Cells.wiring c.args.cells.now) (g.C.Cells.tables c.args.cells.now) c.args.cell c.args.window.now c.deref-number-items.result.now _
    c.places-elements.result.now c.loop-number.number-index c.requires.nets c.deref-number-items.ensures.value c.in_ok-near.ensures c.places-elements.ensures.all c.loop-number-test.true in
    near_at c.places-elements.result.now (get_or c.deref-number-items.result.now c.loop-number.number-index 0) c.places-elements.ensures.close it.inside

pub push_moved-requires-clause-near_motion : goal.push_moved-requires-clause-near_motion
push_moved-requires-clause-near_motion g t c =
    let it = near_element (g.C.Cells.design c.args.cells.now) (g.C.Cells.wiring c.args.cells.now) (g.C.Cells.tables c.args.cells.now) c.args.cell c.args.window.now c.deref-number-items.result.now _
    c.places-elements.result.now c.loop-number.number-index c.requires.nets c.deref-number-items.ensures.value c.in_ok-near.ensures c.places-elements.ensures.all c.loop-number-test.true in
    near_at c.places-elements.result.now (get_or c.deref-number-items.result.now c.loop-number.number-index 0) c.places-elements.ensures.close it.inside

pub first_place-at-requires-clause-nets : goal.first_place-at-requires-clause-nets
first_place-at-requires-clause-nets g t c = c.requires.nets c.args.cell ([], refl)

pub first_place-at-requires-clause-number : goal.first_place-at-requires-clause-number
first_place-at-requires-clause-number g t c = (near_element (g.C.Cells.design c.args.cells.now) (g.C.Cells.wiring c.args.cells.now) (g.C.Cells.tables c.args.cells.now) c.args.cell c.args.window.now c.deref-number-items.result.now _
    c.places-elements.result.now c.loop-number.number-index c.requires.nets c.deref-number-items.ensures.value c.in_ok-near.ensures c.places-elements.ensures.all c.loop-number-test.true).known

pub collect_nets-requires : goal.collect_nets-requires
collect_nets-requires g t c =
    let k = get_or c.deref-number-items.result.now c.loop-number.number-index 0 in
    let it = near_element (g.C.Cells.design c.args.cells.now) (g.C.Cells.wiring c.args.cells.now) (g.C.Cells.tables c.args.cells.now) c.args.cell c.args.window.now c.deref-number-items.result.now _
    c.places-elements.result.now c.loop-number.number-index c.requires.nets c.deref-number-items.ensures.value c.in_ok-near.ensures c.places-elements.ensures.all c.loop-number-test.true in
    let lower = c.sound.ensures.lower c.args.cell k (place_of (get_or c.places-elements.result.now k no_element)) it.placed in
    λ κs h. (omega (arith, lower), (h, (c.requires.known, (it.under, c.in-Some.ensures.some.near))))

pub push_moved-requires-clause-listed : goal.push_moved-requires-clause-listed
push_moved-requires-clause-listed g t c =
    let d = g.C.Cells.design c.args.cells.now in
    let w = g.C.Cells.wiring c.args.cells.now in
    let tables = g.C.Cells.tables c.args.cells.now in
    let cell = c.args.cell in
    let k = get_or c.deref-number-items.result.now c.loop-number.number-index 0 in
    let p : Place = place_of (get_or c.places-elements.result.now k no_element) in
    let it = near_element (g.C.Cells.design c.args.cells.now) (g.C.Cells.wiring c.args.cells.now) (g.C.Cells.tables c.args.cells.now) c.args.cell c.args.window.now c.deref-number-items.result.now _
    c.places-elements.result.now c.loop-number.number-index c.requires.nets c.deref-number-items.ensures.value c.in_ok-near.ensures c.places-elements.ensures.all c.loop-number-test.true in
    let below : IsCollection d tables p.cell c.args.conductor c.in-Some.inner c.in_ok-below-in-Some.below.items = c.in_ok-below-in-Some.ensures in
    let fits = below_listed d w tables cell (c.requires.nets cell ([], refl)) c.args.conductor c.args.window.now c.requires.known k p it.there it.nets c.in-Some.inner c.in_ok-below-in-Some.below.items c.in-Some.ensures.some
    below.collected below.inside in
    rw (c.deref-in-Some.ensures.value, c.net_of-net_of.ensures, c.first_place-at.ensures) fits

pub loop-number-preserved : goal.loop-number-preserved
loop-number-preserved g t c =
    let d = g.C.Cells.design c.args.cells.now in
    let w = g.C.Cells.wiring c.args.cells.now in
    let tables = g.C.Cells.tables c.args.cells.now in
    let cell = c.args.cell in
    let nets : AreNets d w tables cell (tables.nets cell) = c.requires.nets cell ([], refl) in
    let near = c.deref-number-items.result.now in
    let i = c.loop-number.number-index in
    let k = get_or near i 0 in
    let p : Place = place_of (get_or c.places-elements.result.now k no_element) in
    let it = near_element (g.C.Cells.design c.args.cells.now) (g.C.Cells.wiring c.args.cells.now) (g.C.Cells.tables c.args.cells.now) c.args.cell c.args.window.now c.deref-number-items.result.now _
    c.places-elements.result.now c.loop-number.number-index c.requires.nets c.deref-number-items.ensures.value c.in_ok-near.ensures c.places-elements.ensures.all c.loop-number-test.true in
    let window = c.args.window.now in
    let next = visited_next near i k refl in
    elim c.match-part_of.branch [
      | in-None v ↦ rw v.out-is (child_none d w tables cell nets c.args.conductor window c.requires.known k p it.there it.nets (IsVisited near i) (IsVisited near (i + 1)) next [] c.loop-number.out.items v.in-None.ensures.none c.loop-number.invariant)
      | in-Some+in_ok-below-in-Some+in_ok-push_moved-in-Some v ↦
          let below : IsCollection d tables p.cell c.args.conductor v.in-Some.inner v.in_ok-below-in-Some.below.items = v.in_ok-below-in-Some.ensures in
          let added = rw (v.deref-in-Some.ensures.value, c.net_of-net_of.ensures, v.first_place-at.ensures) at v.in_ok-push_moved-in-Some.ensures in
          rw v.out-is
          (child_more d w tables cell nets c.args.conductor window c.requires.known k p it.there it.nets v.in-Some.inner v.in_ok-below-in-Some.below.items v.in-Some.ensures.some below.collected (IsVisited near i) (IsVisited near (i + 1)) next [] c.loop-number.out.items v.push_moved.new.out.items c.loop-number.invariant added)
    ]

pub returns : goal.returns
returns g t c =
    let d = g.C.Cells.design c.args.cells.now in
    let w = g.C.Cells.wiring c.args.cells.now in
    let tables = g.C.Cells.tables c.args.cells.now in
    let cell = c.args.cell in
    let nets : AreNets d w tables cell (tables.nets cell) = c.requires.nets cell ([], refl) in
    let near = c.deref-number-items.result.now in
    let are : ArePlacesNear d tables cell c.args.window.now near = subst (ArePlacesNear d tables cell c.args.window.now) (sym c.deref-number-items.ensures.value) c.in_ok-near.ensures in
    let end : c.loop-number.number-index ≡ length near = omega arith in
    all_collected d w tables cell nets c.args.conductor c.args.window.now c.requires.known near c.loop-number.number-index c.loop-number.out.items are end c.loop-number.invariant

pub returns-then-is_bare : goal.returns-then-is_bare
returns-then-is_bare g t c =
    let none = c.is_bare.ensures c.if-is_bare.true in
    rw c.new.ensures.items (record { collected = record { each = λ x q h. absurd h; found = λ x q within h. absurd (none x q h) }; inside = tt })
