use Rattle.std.proofs.Common.{◌≡◌, ◌++◌, ◌∷◌, [], length, sym, subst, arith, ◌∙◌, ap, length-append}
use Rattle.std.proofs.lemmas.List.{length-replicate}
use Rattle.cell_graph.specs.Parts.{IsAmong}
use Rattle.cell_graph.specs.Marking.{AddsMarks}
use Rattle.cell_graph.proofs.Walks.{part_read, places_inside, walk_begins, walk_goes_on, walk_ends, next_inside, no_items}
use Rattle.cell_graph.proofs.walking.below.Goals as goal

pub mark_placed-requires : goal.mark_placed-requires
mark_placed-requires c =
    let parts = c.args.parts.now in
    let fresh = (c.in_ok-marks.ensures {u = tt}).items_if_clones_equal (λ y e. e) in
    let count : length c.in_ok-marks.marks.items ≡ length parts = ap length fresh ∙ length-replicate (length parts) _ in
    places_inside parts c.args.cell c.index-parts-cell.result c.deref.result.now (length c.in_ok-marks.marks.items) c.requires.resolved c.requires.inside c.index-parts-cell.is c.deref.ensures.value count

pub loop-next-init : goal.loop-next-init
loop-next-init c =
    let parts = c.args.parts.now in
    let part = c.index-parts-cell.result in
    let fresh = (c.in_ok-marks.ensures {u = tt}).items_if_clones_equal (λ y e. e) in
    let ms = c.in_ok-marks.marks.items in
    walk_begins parts c.args.cell part ms c.mark_placed.new.marks.items c.mark_placed.new.stack.items (part_read parts c.args.cell part c.requires.inside c.index-parts-cell.is) fresh
    (subst (λ ps. AddsMarks (IsAmong ps) ms c.mark_placed.new.marks.items [] c.mark_placed.new.stack.items) c.deref.ensures.value
    (subst (λ st. AddsMarks (IsAmong c.deref.result.now) ms c.mark_placed.new.marks.items st c.mark_placed.new.stack.items) c.new-stack.ensures.items (c.in_ok-mark_placed.ensures {u = tt})))

pub bounds-parts-next : goal.bounds-parts-next
bounds-parts-next c = next_inside c.args.parts.now c.args.cell c.in-Some.next c.loop-next.marks.items c.loop-next.stack.items c.pop.new.self.items (c.in-Some.ensures {u = tt}).items c.loop-next.invariant

pub mark_placed-requires-in-Some : goal.mark_placed-requires-in-Some
mark_placed-requires-in-Some c =
    let parts = c.args.parts.now in
    let inside = next_inside parts c.args.cell c.in-Some.next c.loop-next.marks.items c.loop-next.stack.items c.pop.new.self.items (c.in-Some.ensures {u = tt}).items c.loop-next.invariant in
    places_inside parts c.in-Some.next c.index-parts-next.result c.deref-in-Some.result.now (length c.loop-next.marks.items) c.requires.resolved inside c.index-parts-next.is
    c.deref-in-Some.ensures.value c.loop-next.invariant.count

pub loop-next-preserved : goal.loop-next-preserved
loop-next-preserved c =
    let parts = c.args.parts.now in
    let part = c.index-parts-next.result in
    let inside = next_inside parts c.args.cell c.in-Some.next c.loop-next.marks.items c.loop-next.stack.items c.pop.new.self.items (c.in-Some.ensures {u = tt}).items c.loop-next.invariant in
    let m1 = c.mark_placed-in-Some.new.marks.items in
    let s1 = c.mark_placed-in-Some.new.stack.items in
    walk_goes_on parts c.args.cell c.in-Some.next part c.loop-next.marks.items m1 c.loop-next.stack.items c.pop.new.self.items s1 (part_read parts c.in-Some.next part inside c.index-parts-next.is)
    (c.in-Some.ensures {u = tt}).items c.loop-next.invariant
    (subst (λ ps. AddsMarks (IsAmong ps) c.loop-next.marks.items m1 c.pop.new.self.items s1) c.deref-in-Some.ensures.value (c.in_ok-mark_placed-2.ensures {u = tt}))

pub loop-next-smaller : goal.loop-next-smaller
loop-next-smaller c =
    let popped : c.loop-next.stack.items ≡ c.pop.new.self.items ++ c.in-Some.next ∷ [] = (c.in-Some.ensures {u = tt}).items in
    let size = (c.in_ok-mark_placed-2.ensures {u = tt}).size in
    let l = ap length popped in
    let k = length-append c.pop.new.self.items (c.in-Some.next ∷ []) in
    omega arith

pub returns : goal.returns
returns c = let h = (c.in_default.ensures {u = tt}).cases in let k = c.loop-next.stack.ok.0 in walk_ends c.args.parts.now c.args.cell c.loop-next.marks.items c.loop-next.stack.items (no_items c.loop-next.stack.items (let e : length c.loop-next.stack.items ≡ 0 = sym k ∙ h.0 in e)) c.loop-next.invariant
