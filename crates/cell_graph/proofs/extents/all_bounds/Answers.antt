use Rattle.std.proofs.Common.{◌≡◌, ◌<◌, Some, length, get_or, refl, sym, subst, ◌∙◌, arith}
use Rattle.cell_graph.specs.declared.drafts.CellDraft.{CellDraft}
use Rattle.cell_graph.specs.Extents.{IsBoundsOf, AreRects}
use Rattle.cell_graph.proofs.Hulls.{cell_least, cell_far}
use Rattle.cell_graph.proofs.Rounds.{next_in, round_of, none_found, next_found, all_found, first_far}
use Rattle.cell_graph.proofs.extents.all_bounds.Goals as goal

pub loop-cell-init : goal.loop-cell-init
loop-cell-init c = none_found c.args.cells.now c.args.order.now (length c.args.cells.now) c.in_ok-found.found.items refl (c.in_ok-found.ensures {u = tt})

pub bounds-cells-i : goal.bounds-cells-i
bounds-cells-i c = next_in c.args.cells.now c.args.heights.now c.args.order.now c.loop-cell.cell-index c.requires.heights c.requires.order c.loop-cell-test.true

pub bounds-parts-i : goal.bounds-parts-i
bounds-parts-i c =
    let lt = next_in c.args.cells.now c.args.heights.now c.args.order.now c.loop-cell.cell-index c.requires.heights c.requires.order c.loop-cell-test.true in
    subst (λ m. get_or c.args.order.now c.loop-cell.cell-index 0 < m) (sym c.requires.parts.count) lt

pub bounds_of-requires-clause-inside : goal.bounds_of-requires-clause-inside
bounds_of-requires-clause-inside c = (round_of c.args.cells.now c.args.parts.now c.args.heights.now c.args.order.now c.loop-cell.cell-index c.index-cells-i.result c.index-parts-i.result
    c.deref.result.now c.loop-cell.found.items c.deref-in-loop-cell.result.now c.requires.sound c.requires.parts c.requires.arrays c.requires.heights c.requires.order
    c.loop-cell.invariant c.loop-cell-test.true c.index-cells-i.is c.index-parts-i.is c.deref.ensures.value c.deref-in-loop-cell.ensures.value).inside

pub bounds_of-requires-clause-arrays : goal.bounds_of-requires-clause-arrays
bounds_of-requires-clause-arrays c = (round_of c.args.cells.now c.args.parts.now c.args.heights.now c.args.order.now c.loop-cell.cell-index c.index-cells-i.result c.index-parts-i.result
    c.deref.result.now c.loop-cell.found.items c.deref-in-loop-cell.result.now c.requires.sound c.requires.parts c.requires.arrays c.requires.heights c.requires.order
    c.loop-cell.invariant c.loop-cell-test.true c.index-cells-i.is c.index-parts-i.is c.deref.ensures.value c.deref-in-loop-cell.ensures.value).arrays

pub name_at-requires : goal.name_at-requires
name_at-requires c = next_in c.args.cells.now c.args.heights.now c.args.order.now c.loop-cell.cell-index c.requires.heights c.requires.order c.loop-cell-test.true

pub returns-in_default-clause-fault : goal.returns-in_default-clause-fault
returns-in_default-clause-fault c top root tops =
    let cells = c.args.cells.now in
    let order = c.args.order.now in
    let n = c.loop-cell.cell-index in
    let i = get_or order n 0 in
    let it = round_of c.args.cells.now c.args.parts.now c.args.heights.now c.args.order.now c.loop-cell.cell-index c.index-cells-i.result c.index-parts-i.result
    c.deref.result.now c.loop-cell.found.items c.deref-in-loop-cell.result.now c.requires.sound c.requires.parts c.requires.arrays c.requires.heights c.requires.order
    c.loop-cell.invariant c.loop-cell-test.true c.index-cells-i.is c.index-parts-i.is c.deref.ensures.value c.deref-in-loop-cell.ensures.value in
    let far = cell_far cells i c.index-cells-i.result c.deref.result.now c.deref-in-loop-cell.result.now c.requires.sound.once it.there it.all it.children (c.in_default.ensures {u = tt}).bounds in (
      c.requires.sound,
      (root, tops),
      first_far cells c.args.heights.now order n i c.loop-cell.found.items c.in_ok-name_at.field-0 c.requires.heights c.requires.sound.no_deep c.requires.order it.at
          (c.in_ok-name_at.ensures {u = tt}) far c.loop-cell.invariant,
    )

pub index_mut-requires : goal.index_mut-requires
index_mut-requires c =
    let lt = next_in c.args.cells.now c.args.heights.now c.args.order.now c.loop-cell.cell-index c.requires.heights c.requires.order c.loop-cell-test.true in
    let count = c.loop-cell.invariant.count in
    let len = c.loop-cell.found.ok.0 in
    omega arith

pub loop-cell-preserved : goal.loop-cell-preserved
loop-cell-preserved c =
    let cells = c.args.cells.now in
    let order = c.args.order.now in
    let n = c.loop-cell.cell-index in
    let i = get_or order n 0 in
    let draft = c.index-cells-i.result in
    let it = round_of c.args.cells.now c.args.parts.now c.args.heights.now c.args.order.now c.loop-cell.cell-index c.index-cells-i.result c.index-parts-i.result
    c.deref.result.now c.loop-cell.found.items c.deref-in-loop-cell.result.now c.requires.sound c.requires.parts c.requires.arrays c.requires.heights c.requires.order
    c.loop-cell.invariant c.loop-cell-test.true c.index-cells-i.is c.index-parts-i.is c.deref.ensures.value c.deref-in-loop-cell.ensures.value in
    let b = c.in-Some.bounds in
    let is = (c.in-Some.ensures {u = tt}).bounds in
    let own : IsBoundsOf cells i b = record {
      least = cell_least cells i draft c.deref.result.now c.deref-in-loop-cell.result.now b c.requires.sound.once it.there it.all it.children is.least;
      near = is.near;
      rects = λ d e. (let same : draft ≡ d = (let f : Some draft ≡ Some d = sym it.there ∙ e in cc) in subst (λ (d : CellDraft). AreRects d.layers.items) same (c.in-Some.ensures {u = tt}).rects);
    } in
    let lt = next_in c.args.cells.now c.args.heights.now c.args.order.now c.loop-cell.cell-index c.requires.heights c.requires.order c.loop-cell-test.true in
    next_found cells c.args.heights.now order n i c.loop-cell.found.items b c.requires.order lt it.at own c.loop-cell.invariant

pub returns-clause-bounds : goal.returns-clause-bounds
returns-clause-bounds c = all_found c.args.cells.now c.args.heights.now c.args.order.now c.loop-cell.cell-index c.loop-cell.found.items c.requires.heights c.requires.sound.no_deep c.requires.order c.loop-cell-test.false c.loop-cell.invariant
