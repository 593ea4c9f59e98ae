use Rattle.std.proofs.Common.{◌≡◌, ◌+◌, ℕ, List, Bool, false, IsSome, ap, arith, get_or, length, map, slice_index, subst, sym}
use Rattle.std.proofs.lemmas.List.{length-map, map-set}
use Rattle.std.specs.Global.{Vec}
use Rattle.std.specs.Prelude.{set}
use Rattle.deep_tables.specs.Entries.{entry}
use Rattle.deep_tables.specs.Pins.{pins_of}
use Rattle.net_phase.proofs.Listing.{long_push}
use Rattle.view_drawing.specs.Calls.{called_in}
use Rattle.view_drawing.proofs.Marking.{AreMarksTo, all_marked, none_marked, one_marked}
use Rattle.view_drawing.proofs.called.called_marks.Goals as goal

pub loop-preserved : goal.loop-preserved
loop-preserved c =
    let long = long_push c.loop.all.items c.new.result in
    let i = c.loop.invariant in
    rw c.in_ok-push.ensures.items (omega (arith, long, i))

pub loop-cell-init : goal.loop-cell-init
loop-cell-init c =
    let all = c.loop.all.items in
    let long = length-map all (λ (m : Vec Bool). m.items) in
    let i = c.loop.invariant in let n = c.cells-end.ensures in let past = c.loop-test.false in let up = c.loop.auto.counter-end in
    none_marked c.args.design.now c.args.circuits.now c.args.pins.now (map (λ (m : Vec Bool). m.items) all) (omega (arith, long, i, n))

pub cell_marks-requires-clause-pins : goal.cell_marks-requires-clause-pins
cell_marks-requires-clause-pins c =
    let d = c.args.design.now in let n = c.loop-cell.cell-index in
    let long = ap (λ (o : List ℕ). length o) c.order-cell-items.ensures in
    let same : get_or c.order-cell-items.result.now n 0 ≡ slice_index d.order n = ap (λ (o : List ℕ). slice_index o n) c.order-cell-items.ensures in
    subst (λ cell. IsSome (entry c.args.pins.now cell)) (sym same) (c.requires.pins (slice_index d.order n) (c.sound.ensures.order.reached n (omega (arith, long))))

pub cell_marks-requires-clause-circuits : goal.cell_marks-requires-clause-circuits
cell_marks-requires-clause-circuits c =
    let d = c.args.design.now in let n = c.loop-cell.cell-index in
    let long = ap (λ (o : List ℕ). length o) c.order-cell-items.ensures in
    let same : get_or c.order-cell-items.result.now n 0 ≡ slice_index d.order n = ap (λ (o : List ℕ). slice_index o n) c.order-cell-items.ensures in
    subst (λ cell. IsSome (entry c.args.circuits.now cell)) (sym same) (c.requires.circuits (slice_index d.order n) (c.sound.ensures.order.reached n (omega (arith, long))))

pub index_mut-requires : goal.index_mut-requires
index_mut-requires c =
    let d = c.args.design.now in let n = c.loop-cell.cell-index in
    let long = ap (λ (o : List ℕ). length o) c.order-cell-items.ensures in
    let same : get_or c.order-cell-items.result.now n 0 ≡ slice_index d.order n = ap (λ (o : List ℕ). slice_index o n) c.order-cell-items.ensures in
    let within = c.sound.ensures.order.inside n (omega (arith, long)) in
    let many = c.loop-cell.invariant.long in
    let seen = length-map c.loop-cell.all.items (λ (m : Vec Bool). m.items) in
    omega (arith, within, many, seen, same)

pub loop-cell-preserved : goal.loop-cell-preserved
loop-cell-preserved c =
    let d = c.args.design.now in let n = c.loop-cell.cell-index in let all = c.loop-cell.all.items in
    let table = c.args.circuits.now in let pins = c.args.pins.now in
    let ms = c.in_ok-all.field-0 in
    let of = λ (m : Vec Bool). m.items in
    let long = ap (λ (o : List ℕ). length o) c.order-cell-items.ensures in
    let same : get_or c.order-cell-items.result.now n 0 ≡ slice_index d.order n = ap (λ (o : List ℕ). slice_index o n) c.order-cell-items.ensures in
    let here : (b : ℕ) → get_or ms.items b false ≡ called_in table (pins_of pins) (slice_index d.order n) b =
    λ b. subst (λ cell. get_or ms.items b false ≡ called_in table (pins_of pins) cell b) same (c.in_ok-all.ensures b) in
    let more = one_marked d table pins n (map of all) ms.items c.sound.ensures.order (omega (arith, long)) c.loop-cell.invariant here in
    subst (λ k. AreMarksTo d table pins (n + 1) (map of (set all k ms))) (sym same)
    (subst (λ (l : List (List Bool)). AreMarksTo d table pins (n + 1) l) (sym (map-set of all (slice_index d.order n) ms)) more)

pub returns : goal.returns
returns c =
    let long = ap (λ (o : List ℕ). length o) c.order-cell-items.ensures in
    all_marked c.args.design.now c.args.circuits.now c.args.pins.now c.loop-cell.cell-index (map (λ (m : Vec Bool). m.items) c.loop-cell.all.items) c.sound.ensures.order (omega (arith, long)) c.loop-cell.invariant
