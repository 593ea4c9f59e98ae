use Rattle.std.proofs.Common.{◌≡◌, ◌<◌, ◌≤◌, ◌∙◌, ℕ, zero, suc, Bool, true, false, List, ◌∷◌, [], length, get_or, refl, sym, subst, ap, arith}
use Rattle.std.specs.List.{list_any}
use Rattle.std.proofs.lemmas.Bool.{false≢true}
use Rattle.std.proofs.lemmas.List.{get_or_past}
use Rattle.flat_layout.specs.Layout.{Place}
use Rattle.flat_layout.specs.Nets.{AreNets}
use Rattle.geo_base.specs.declared.shapes.Rect.{Rect}
use Rattle.net_link_laws.proofs.Standing.{own_next, child_next, nets_none}
use Rattle.net_link_laws.specs.Places.{owned_before, places_of}
use Rattle.net_walk.proofs.Walking.{own_fits, near_at, no_element}
use Rattle.net_walk.specs.Held.{IsMarked}
use Rattle.net_walk.specs.Walk.{place_of}
use Rattle.view_shapes.proofs.Bounding.{all_near}
use Rattle.view_shapes.proofs.Showing.{IsOfConductors, conductors_none, conductors_more, own_first, child_none, child_at, child_more, below_listed, shown_there}
use Rattle.view_shapes.specs.Pieces.{AddsPieces}
use Rattle.view_shapes.specs.Shown.{called_by}
use Rattle.view_shapes.specs.Wanted.{AreWantedBelow}
use Rattle.view_shapes.specs.declared.pieces.Piece.{Piece}
use Rattle.view_shapes.proofs.shown.+find_pieces.Goals as goal
use Rattle.view_shapes.proofs.shown.+find_pieces.Goals.{then-is_any+in_ok-found+in_ok-push_moved, else-is_any}

-- without marks no net is called
no_calls : (e b : ℕ) → called_by [] e b ≡ false
no_calls e b =
    let none : 0 ≤ e = omega arith in
    let no : 0 ≤ b = omega arith in
    let marks : List (List Bool) = [] in
    let bools : List Bool = [] in
    ap (λ (l : List Bool). get_or l b false) (get_or_past marks e [] none) ∙ get_or_past bools b false no

-- where none is marked, none of a number is
none_marked : (below : List Bool) → list_any (λ is. is) below ≡ false → (b : ℕ) → IsMarked below b → ⊥
none_marked [] h b m =
    let bools : List Bool = [] in
    let no : 0 ≤ b = omega arith in
    false≢true (sym (get_or_past bools b false no) ∙ m)
none_marked (true ∷ below) h b m = false≢true (sym h)
none_marked (false ∷ below) h zero m = false≢true m
none_marked (false ∷ below) h (suc b) m = none_marked below h b m

pub overflow_add-at : goal.overflow_add-at
overflow_add-at g t c =
    let known = c.layers-test.true in
    let count = c.conductors-conductor-end.ensures in
    let fits = own_fits (g.C.Cells.design c.args.cells.now) (g.C.Cells.wiring c.args.cells.now) (g.C.Cells.tables c.args.cells.now) c.args.cell
    (c.requires c.args.cell ([], refl)) c.layers.conductor (omega (arith, known, count)) in
    let long = ap (λ (l : List ℕ). length l) c.net_of-net_of.ensures in
    let own = ap (λ (l : List Rect). length l) c.own-own.ensures.all in
    let at = c.layers.invariant.0 in
    let f = c.net_of-net_of.type_inv.0 in
    omega (arith, fits, long, own, at, f)

pub push_own-requires-clause-fits : goal.push_own-requires-clause-fits
push_own-requires-clause-fits g t c =
    let known = c.layers-test.true in
    let count = c.conductors-conductor-end.ensures in
    let fits = own_fits (g.C.Cells.design c.args.cells.now) (g.C.Cells.wiring c.args.cells.now) (g.C.Cells.tables c.args.cells.now) c.args.cell
    (c.requires c.args.cell ([], refl)) c.layers.conductor (omega (arith, known, count)) in
    let long = ap (λ (l : List ℕ). length l) c.net_of-net_of.ensures in
    let own = ap (λ (l : List Rect). length l) c.own-own.ensures.all in
    let at = c.layers.invariant.0 in
    omega (arith, fits, long, own, at)

pub layers-init : goal.layers-init
layers-init g t c =
    let tables = g.C.Cells.tables c.args.cells.now in
    (refl, subst (λ (ps : List Piece). AddsPieces (IsOfConductors tables c.args.cell c.args.wanted.now 0) [] ps) (sym c.new-out.ensures.items) (conductors_none tables c.args.cell c.args.wanted.now []))

pub layers-preserved : goal.layers-preserved
layers-preserved g t c =
    let tables = g.C.Cells.tables c.args.cells.now in
    let cell = c.args.cell in
    let wanted = c.args.wanted.now in
    let n = c.layers.conductor in
    let at = c.layers.invariant.0 in
    let own = ap (λ (l : List Rect). length l) c.own-own.ensures.all in
    let step = own_next tables cell n in
    let added = rw (c.own-own.ensures.all, c.net_of-net_of.ensures, at) at c.in_ok-push_own.ensures in
    (omega (arith, at, own, step), conductors_more tables cell wanted n [] c.layers.out.items c.push_own.new.out.items c.layers.invariant.1 added)

pub children-init : goal.children-init
children-init g t c =
    let d = g.C.Cells.design c.args.cells.now in
    let w = g.C.Cells.wiring c.args.cells.now in
    let tables = g.C.Cells.tables c.args.cells.now in
    let cell = c.args.cell in
    let wanted = c.args.wanted.now in
    let called = called_by c.args.called.now in
    let nets : AreNets d w tables cell (tables.nets cell) = c.requires cell ([], refl) in
    let count = c.conductors-conductor-end.ensures in
    let over = c.layers-test.false in
    let end : c.layers.conductor ≡ length w.conductors = omega (arith, count, over) in
    let at = c.layers.invariant.0 ∙ ap (owned_before tables cell) end in
    let none = nets_none tables (places_of d cell) in
    (omega (arith, at, none), own_first d w tables cell nets called wanted [] c.layers.out.items (subst (λ n. AddsPieces (IsOfConductors tables cell wanted n) [] c.layers.out.items) end c.layers.invariant.1))

pub wanted_below-requires : goal.wanted_below-requires
wanted_below-requires g t c =
    let it = child_at (g.C.Cells.design c.args.cells.now) (g.C.Cells.wiring c.args.cells.now) (g.C.Cells.tables c.args.cells.now) c.args.cell
    c.children.k c.places-elements.result.now c.requires c.places-elements.ensures.all c.children-test.true in
    let fits = it.fits in
    let long = ap (λ (l : List ℕ). length l) c.net_of-net_of.ensures in
    let at = c.children.invariant.0 in
    let count = c.count-count.ensures in
    omega (arith, fits, long, at, count)

pub overflow_add-at-in-children : goal.overflow_add-at-in-children
overflow_add-at-in-children g t c =
    let it = child_at (g.C.Cells.design c.args.cells.now) (g.C.Cells.wiring c.args.cells.now) (g.C.Cells.tables c.args.cells.now) c.args.cell
    c.children.k c.places-elements.result.now c.requires c.places-elements.ensures.all c.children-test.true in
    let fits = it.fits in
    let long = ap (λ (l : List ℕ). length l) c.net_of-net_of.ensures in
    let at = c.children.invariant.0 in
    let count = c.count-count.ensures in
    let f = c.net_of-net_of.type_inv.0 in
    omega (arith, fits, long, at, count, f)

pub find_pieces-requires : goal.find_pieces-requires
find_pieces-requires g t c =
    let it = child_at (g.C.Cells.design c.args.cells.now) (g.C.Cells.wiring c.args.cells.now) (g.C.Cells.tables c.args.cells.now) c.args.cell
    c.children.k c.places-elements.result.now c.requires c.places-elements.ensures.all c.children-test.true in
    let lower = c.sound.ensures.lower _ _ _ it.placed in
    λ κs h. (omega (arith, lower), (h, it.under))

pub push_moved-requires-clause-near : goal.push_moved-requires-clause-near
push_moved-requires-clause-near g t c =
    near_at c.places-elements.result.now c.children.k c.places-elements.ensures.close c.children-test.true

pub returns-clause-near : goal.returns-clause-near
returns-clause-near g t c =
    let over = c.children-test.false in
    let shown = shown_there (g.C.Cells.design c.args.cells.now) (g.C.Cells.wiring c.args.cells.now) (g.C.Cells.tables c.args.cells.now) c.args.cell
    c.children.k c.places-elements.result.now c.requires c.places-elements.ensures.all
    (called_by c.args.called.now) c.args.wanted.now c.children.out.items (omega (arith, over)) c.children.invariant.1 in
    all_near (g.C.Cells.design c.args.cells.now) (g.C.Cells.tables c.args.cells.now) (called_by c.args.called.now) c.args.cell c.args.wanted.now
    c.children.out.items c.hull-hull.result shown c.hull-hull.ensures.some c.hull-hull.ensures.none (c.children.invariant.1.proper tt)

pub returns-clause-shown : goal.returns-clause-shown
returns-clause-shown g t c =
    let over = c.children-test.false in
    shown_there (g.C.Cells.design c.args.cells.now) (g.C.Cells.wiring c.args.cells.now) (g.C.Cells.tables c.args.cells.now) c.args.cell
    c.children.k c.places-elements.result.now c.requires c.places-elements.ensures.all
    (called_by c.args.called.now) c.args.wanted.now c.children.out.items (omega (arith, over)) c.children.invariant.1

pub push_moved-requires-clause-listed : goal.push_moved-requires-clause-listed
push_moved-requires-clause-listed g t c =
    let d = g.C.Cells.design c.args.cells.now in
    let w = g.C.Cells.wiring c.args.cells.now in
    let tables = g.C.Cells.tables c.args.cells.now in
    let cell = c.args.cell in
    let wanted = c.args.wanted.now in
    let called = called_by c.args.called.now in
    let k = c.children.k in
    let es = c.places-elements.result.now in
    let p : Place = place_of (get_or es k no_element) in
    let it = child_at d w tables cell k es c.requires c.places-elements.ensures.all c.children-test.true in
    let marks = c.marks_of-marks.result.now in
    let same : (b : ℕ) → called p.cell b ≡ get_or marks b false = λ b. ap (λ (l : List Bool). get_or l b false) (sym c.marks_of-marks.ensures) in
    let below = c.in_ok-below.below.items in
    let are : AreWantedBelow (tables.nets cell).net_of c.children.at (tables.nets p.cell).count wanted marks below = rw (c.net_of-net_of.ensures, c.count-count.ensures) at c.in_ok-below.ensures in
    let pieces = c.in_ok-found.found.items in
    let shown = rw c.as_slice-marked.ensures.value at c.in_ok-found.ensures.shown in
    let fits = below_listed d w tables cell it.nets called wanted k p it.there it.nets_too c.children.at c.children.invariant.0 marks below same are (called_by []) pieces no_calls shown c.in_ok-found.ensures.near in
    rw (c.as_slice-pieces.ensures.value, c.net_of-net_of.ensures) fits

pub push_moved-requires-clause-pieces : goal.push_moved-requires-clause-pieces
push_moved-requires-clause-pieces g t c = rw c.as_slice-pieces.ensures.value c.in_ok-found.ensures.near

pub children-preserved : goal.children-preserved
children-preserved g t c =
    let d = g.C.Cells.design c.args.cells.now in
    let w = g.C.Cells.wiring c.args.cells.now in
    let tables = g.C.Cells.tables c.args.cells.now in
    let cell = c.args.cell in
    let wanted = c.args.wanted.now in
    let called = called_by c.args.called.now in
    let k = c.children.k in
    let es = c.places-elements.result.now in
    let p : Place = place_of (get_or es k no_element) in
    let it = child_at d w tables cell k es c.requires c.places-elements.ensures.all c.children-test.true in
    let marks = c.marks_of-marks.result.now in
    let same : (b : ℕ) → called p.cell b ≡ get_or marks b false = λ b. ap (λ (l : List Bool). get_or l b false) (sym c.marks_of-marks.ensures) in
    let below = c.in_ok-below.below.items in
    let are : AreWantedBelow (tables.nets cell).net_of c.children.at (tables.nets p.cell).count wanted marks below = rw (c.net_of-net_of.ensures, c.count-count.ensures) at c.in_ok-below.ensures in
    let at = c.children.invariant.0 in
    let count = c.count-count.ensures in
    let step = child_next tables (places_of d cell) k p it.there in
    elim c.if-is_any.branch [
      | then-is_any+in_ok-found+in_ok-push_moved v ↦
          let pieces = v.in_ok-found.found.items in
          let shown = rw c.as_slice-marked.ensures.value at v.in_ok-found.ensures.shown in
          let added = rw (v.as_slice-pieces.ensures.value, c.net_of-net_of.ensures) at v.in_ok-push_moved.ensures in (
            omega (arith, at, count, step),
            rw v.out-is (child_more d w tables cell it.nets called wanted k p it.there it.nets_too c.children.at at marks below same are (called_by []) pieces no_calls shown [] c.children.out.items v.push_moved.new.out.items c.children.invariant.1 added),
          )
      | else-is_any v ↦
          let none = subst (λ (l : List Bool). list_any (λ is. is) l ≡ false) c.as_slice-marked.ensures.value (sym c.is_any.ensures ∙ v.if-is_any.false) in (
            omega (arith, at, count, step),
            rw v.out-is (child_none d w tables cell it.nets called wanted k p it.there it.nets_too c.children.at at marks below same are [] c.children.out.items (none_marked below none) c.children.invariant.1),
          )
    ]
