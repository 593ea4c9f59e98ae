use Rattle.std.proofs.Common.{◌≡◌, ◌∙◌, ◌<◌, ◌+◌, ℕ, Bool, false, List, [], length, get_or, refl, sym, subst, ap, arith}
use Rattle.std.specs.Prelude.{replicate}
use Rattle.flat_layout.specs.Layout.{Place}
use Rattle.flat_layout.specs.Nets.{AreNets}
use Rattle.geo_base.specs.declared.shapes.Rect.{Rect}
use Rattle.net_link_laws.specs.Places.{owned_before, places_of}
use Rattle.net_walk.proofs.Holding.{AreMarkedFor, all_held, below_fits, child_marked, false_long, held_at, kept_at, kept_lists, list_within, read_below, own_marked, written}
use Rattle.net_walk.proofs.Walking.{as_long, element_of, no_element, own_read}
use Rattle.net_walk.proofs.held.+hold.Goals as goal
use Rattle.net_walk.specs.Held.{AddsMarks, IsNumberedAt}
use Rattle.net_walk.specs.Walk.{place_of}
use Rattle.net_walk.specs.declared.held.Held.{Held}

pub owned_before-first-requires : goal.owned_before-first-requires
owned_before-first-requires g t c =
    let fits = own_read (g.C.Cells.design c.args.cells.now) (g.C.Cells.wiring c.args.cells.now) (g.C.Cells.tables c.args.cells.now) c.args.cell c.args.conductor c.net_of-net_of.result.now
    c.requires.nets c.requires.known c.net_of-net_of.ensures in
    let f = c.net_of-net_of.type_inv.0 in
    omega (arith, fits, f)

pub mark_own-requires-clause-items : goal.mark_own-requires-clause-items
mark_own-requires-clause-items g t c =
    let fits = own_read (g.C.Cells.design c.args.cells.now) (g.C.Cells.wiring c.args.cells.now) (g.C.Cells.tables c.args.cells.now) c.args.cell c.args.conductor c.net_of-net_of.result.now
    c.requires.nets c.requires.known c.net_of-net_of.ensures in
    let own = ap (λ (l : List Rect). length l) c.own.ensures.all in
    let first = c.owned_before-first.ensures in
    omega (arith, fits, own, first)

pub mark_own-requires-clause-nets : goal.mark_own-requires-clause-nets
mark_own-requires-clause-nets g t c = λ i lt.
    let low = read_below (g.C.Cells.design c.args.cells.now) (g.C.Cells.wiring c.args.cells.now) (g.C.Cells.tables c.args.cells.now) c.args.cell (c.requires.nets c.args.cell ([], refl)) c.net_of-net_of.result.now c.net_of-net_of.ensures i lt in
    let filled : c.in_ok-marks-in-None.marks.items ≡ replicate c.count.result false = c.in_ok-marks-in-None.ensures.items_if_clones_equal (λ y e. e) in
    let size = ap (λ (l : List Bool). length l) (c.deref_mut.ensures.value ∙ filled) ∙ false_long c.count.result in
    let count = c.count.ensures in
    omega (arith, low, size, count)

pub loop-number-init : goal.loop-number-init
loop-number-init g t c =
    let d = g.C.Cells.design c.args.cells.now in
    let w = g.C.Cells.wiring c.args.cells.now in
    let tables = g.C.Cells.tables c.args.cells.now in
    let cell = c.args.cell in
    let nets : AreNets d w tables cell (tables.nets cell) = c.requires.nets cell ([], refl) in
    let marks = c.in_ok-marks-in-None.marks in
    let filled : marks.items ≡ replicate c.count.result false = c.in_ok-marks-in-None.ensures.items_if_clones_equal (λ y e. e) in
    let new = c.mark_own.new.marks in
    let seen = rw (c.net_of-net_of.ensures, c.owned_before-first.ensures, c.own.ensures.all) at c.mark_own.ensures in
    let added : AddsMarks (IsNumberedAt (tables.nets cell).net_of (owned_before tables cell c.args.conductor) (length (tables.own cell c.args.conductor))) (replicate (tables.nets cell).count false) new =
    subst (λ (ms : List Bool). AddsMarks (IsNumberedAt (tables.nets cell).net_of (owned_before tables cell c.args.conductor) (length (tables.own cell c.args.conductor))) ms new) (c.deref_mut.ensures.value ∙ filled ∙ ap (λ n. replicate n false) c.count.ensures) seen in
    let one : length new ≡ marks.len = c.mark_own.ensures.long ∙ ap (λ (l : List Bool). length l) c.deref_mut.ensures.value ∙ sym marks.ok.0 in
    (c.requires.lists, subst (λ (ms : List Bool). AreMarkedFor d tables cell c.args.conductor 0 ms) (sym (written marks.len new marks.items one)) (own_marked d w tables cell nets c.args.conductor c.requires.known c.sound.ensures.own new added))

pub hold-requires : goal.hold-requires
hold-requires g t c =
    let k = c.loop-number.number in
    let it = element_of (g.C.Cells.design c.args.cells.now) (g.C.Cells.wiring c.args.cells.now) (g.C.Cells.tables c.args.cells.now) c.args.cell c.places-elements.result.now c.loop-number.number
    c.requires.nets c.places-elements.ensures.all (omega arith) in
    let lower = c.sound.ensures.lower c.args.cell k (place_of (get_or c.places-elements.result.now k no_element)) it.placed in
    λ κs h. (omega (arith, lower), (h, (c.requires.known, (it.under, c.loop-number.invariant.0))))

pub nets_at-below-requires : goal.nets_at-below-requires
nets_at-below-requires g t c =
    let es = c.places-elements.result.now in
    rw c.deref.ensures.value (list_within c.hold.new.memo.lists.items (get_or es c.loop-number.number no_element).cell c.args.conductor c.in_ok-position-in-None.position c.in_ok-position-in-None.ensures.at)

pub first_place-at-requires-clause-nets : goal.first_place-at-requires-clause-nets
first_place-at-requires-clause-nets g t c = c.requires.nets c.args.cell ([], refl)

pub mark_below-requires-clause-items : goal.mark_below-requires-clause-items
mark_below-requires-clause-items g t c =
    let d = g.C.Cells.design c.args.cells.now in
    let w = g.C.Cells.wiring c.args.cells.now in
    let tables = g.C.Cells.tables c.args.cells.now in
    let cell = c.args.cell in
    let k = c.loop-number.number in
    let p : Place = place_of (get_or c.places-elements.result.now k no_element) in
    let it = element_of (g.C.Cells.design c.args.cells.now) (g.C.Cells.wiring c.args.cells.now) (g.C.Cells.tables c.args.cells.now) c.args.cell c.places-elements.result.now c.loop-number.number
    c.requires.nets c.places-elements.ensures.all (omega arith) in
    let found = c.in_ok-position-in-None.ensures in
    let below = c.nets_at-below.result.now in
    let held = held_at d tables c.hold.new.memo.lists.items p.cell c.args.conductor c.in_ok-position-in-None.position below found.lists found.at (rw c.deref.ensures.value at c.nets_at-below.ensures) in
    λ b o. rw (c.first_place-at.ensures, c.net_of-net_of.ensures) (below_fits d w tables cell (c.requires.nets cell ([], refl)) c.args.conductor c.requires.known k p it.there it.nets below held b o)

pub mark_below-requires-clause-nets : goal.mark_below-requires-clause-nets
mark_below-requires-clause-nets g t c = λ i lt.
    let low = read_below (g.C.Cells.design c.args.cells.now) (g.C.Cells.wiring c.args.cells.now) (g.C.Cells.tables c.args.cells.now) c.args.cell (c.requires.nets c.args.cell ([], refl)) c.net_of-net_of.result.now c.net_of-net_of.ensures i lt in
    let size = ap (λ (l : List Bool). length l) c.deref_mut-in-loop-number.ensures.value in
    let count = c.loop-number.invariant.1.long in
    omega (arith, low, size, count)

pub loop-number-preserved : goal.loop-number-preserved
loop-number-preserved g t c =
    let d = g.C.Cells.design c.args.cells.now in
    let w = g.C.Cells.wiring c.args.cells.now in
    let tables = g.C.Cells.tables c.args.cells.now in
    let cell = c.args.cell in
    let k = c.loop-number.number in
    let p : Place = place_of (get_or c.places-elements.result.now k no_element) in
    let it = element_of (g.C.Cells.design c.args.cells.now) (g.C.Cells.wiring c.args.cells.now) (g.C.Cells.tables c.args.cells.now) c.args.cell c.places-elements.result.now c.loop-number.number
    c.requires.nets c.places-elements.ensures.all (omega arith) in
    let found = c.in_ok-position-in-None.ensures in
    let below = c.nets_at-below.result.now in
    let held = held_at d tables c.hold.new.memo.lists.items p.cell c.args.conductor c.in_ok-position-in-None.position below found.lists found.at (rw c.deref.ensures.value at c.nets_at-below.ensures) in
    let old = c.loop-number.marks in
    let new = c.mark_below.new.marks in
    let seen = rw (c.net_of-net_of.ensures, c.first_place-at.ensures, c.deref_mut-in-loop-number.ensures.value) at c.mark_below.ensures in
    let one : length new ≡ old.len = c.mark_below.ensures.long ∙ ap (λ (l : List Bool). length l) c.deref_mut-in-loop-number.ensures.value ∙ sym old.ok.0 in (
      found.lists,
      subst (λ (ms : List Bool). AreMarkedFor d tables cell c.args.conductor (k + 1) ms) (sym (written old.len new old.items one))
          (child_marked d w tables cell (c.requires.nets cell ([], refl)) c.args.conductor c.requires.known k p it.there it.nets below held old.items new c.loop-number.invariant.1 seen),
    )

pub returns-in_ok-last-in-None-clause-lists : goal.returns-in_ok-last-in-None-clause-lists
returns-in_ok-last-in-None-clause-lists g t c =
    let d = g.C.Cells.design c.args.cells.now in
    let w = g.C.Cells.wiring c.args.cells.now in
    let tables = g.C.Cells.tables c.args.cells.now in
    let cell = c.args.cell in
    let nets : AreNets d w tables cell (tables.nets cell) = c.requires.nets cell ([], refl) in
    let es = c.places-elements.result.now in
    let long = as_long es (places_of d cell) c.places-elements.ensures.all in
    let end : c.loop-number.number ≡ length (places_of d cell) = omega (arith, long) in
    let last : Held = record { cell = cell; conductor = c.args.conductor; nets = c.in_ok-nets-in-None.nets } in
    let are = rw c.deref-in-None.ensures.value at c.in_ok-nets-in-None.ensures in
    kept_lists d tables c.loop-number.memo.lists.items c.keep.new.memo.lists.items last c.in_ok-last-in-None.ensures.lists c.loop-number.invariant.0
    (all_held d w tables cell nets c.args.conductor c.requires.known c.loop-number.number c.loop-number.marks.items c.in_ok-nets-in-None.nets.items end c.loop-number.invariant.1 are)

pub returns-in_ok-last-in-None-clause-at : goal.returns-in_ok-last-in-None-clause-at
returns-in_ok-last-in-None-clause-at g t c =
    let last : Held = record { cell = c.args.cell; conductor = c.args.conductor; nets = c.in_ok-nets-in-None.nets } in
    kept_at c.loop-number.memo.lists.items c.keep.new.memo.lists.items last c.in_ok-last-in-None.last c.in_ok-last-in-None.ensures.lists c.in_ok-last-in-None.ensures.at
