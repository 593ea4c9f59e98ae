use Rattle.std.proofs.Common.{◌≡◌, ◌+◌, ◌≤◌, ◌^◌, ℕ, Some, slice_get, get_or, length, ap, arith, ◌∙◌}
use Rattle.flat_layout.specs.Layout.{Place}
use Rattle.net_link_laws.proofs.Standing.{child_next, nets_none, nets_under}
use Rattle.net_link_laws.specs.Places.{nets_before, places_of}
use Rattle.net_walk.proofs.Results.{on_err}
use Rattle.net_walk.proofs.Walking.{as_long, element_at, no_element}
use Rattle.net_walk.specs.Walk.{place_of}
use Rattle.net_walk.proofs.together.count_placed.Goals as goal

pub loop-element-init : goal.loop-element-init
loop-element-init g c =
    let d = g.C.Cells.design c.args.cells.now in
    let w = g.C.Cells.wiring c.args.cells.now in
    let t = g.C.Cells.tables c.args.cells.now in
    let cell = c.args.cell in
    let none = nets_none t (places_of d cell) in
    omega (arith, none)

pub loop-element-preserved : goal.loop-element-preserved
loop-element-preserved g c =
    let d = g.C.Cells.design c.args.cells.now in
    let w = g.C.Cells.wiring c.args.cells.now in
    let t = g.C.Cells.tables c.args.cells.now in
    let cell = c.args.cell in
    let k = c.loop-element.element-index in
    let p : Place = place_of (get_or c.places-element-items.result.now k no_element) in
    let there : slice_get (places_of d cell) k ≡ Some p = element_at c.places-element-items.result.now (places_of d cell) k c.places-element-items.ensures.all (omega arith) in
    let next = child_next t (places_of d cell) k p there in
    let i = c.loop-element.invariant in
    let m = c.in_ok-count.ensures.sum in
    let n = c.count.ensures in
    omega (arith, next, i, m, n)

pub returns-clause-count : goal.returns-clause-count
returns-clause-count g c =
    let d = g.C.Cells.design c.args.cells.now in
    let w = g.C.Cells.wiring c.args.cells.now in
    let t = g.C.Cells.tables c.args.cells.now in
    let cell = c.args.cell in
    let long = as_long c.places-element-items.result.now (places_of d cell) c.places-element-items.ensures.all in
    let end : c.loop-element.element-index ≡ length (places_of d cell) = omega arith in
    c.loop-element.invariant ∙ ap (λ (n : ℕ). c.args.from + nets_before t (places_of d cell) n) end

pub returns-in_err-count-clause-err : goal.returns-in_err-count-clause-err
returns-in_err-count-clause-err g c =
    let d = g.C.Cells.design c.args.cells.now in
    let t = g.C.Cells.tables c.args.cells.now in
    let places = places_of d c.args.cell in
    let k = c.loop-element.element-index in
    let p : Place = place_of (get_or c.places-element-items.result.now k no_element) in
    let there : slice_get places k ≡ Some p = element_at c.places-element-items.result.now places k c.places-element-items.ensures.all (omega arith) in
    let step = nets_under t places k p there in
    let i = c.loop-element.invariant in
    let m = c.in_err-count.ensures.err in
    let n = c.count.ensures in
    let over : 2 ^ 32 ≤ c.args.from + nets_before t places (length places) = omega (arith, step, i, m, n) in
    on_err c.from_residual.result (2 ^ 32 ≤ c.args.from + nets_before t places (length places)) over
