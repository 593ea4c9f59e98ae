use Rattle.std.proofs.Common.{◌≡◌, List, false, true, get_or, map, length, refl, sym, ◌∙◌, ap, subst, arith}
use Rattle.flat_layout.specs.Layout.{Some_of}
use Rattle.flat_slow.specs.declared.design.SlowPlace.{SlowPlace}
use Rattle.flat_slow.specs.declared.design.SlowShape.{SlowShape}
use Rattle.flat_slow.proofs.Ways.{not_skipped, skipped, yes_is, no_is, no_own, own_to, cell_at, item_at, placed_at, no_place, over_own, over_through, none_more, through_from, none_within}
use Rattle.flat_slow.specs.Paths.{plain, plain_place, plain_layer, IsOnLayer}
use Rattle.flat_slow.proofs.paths.+is_over.Goals.{then-ne+else-depth-eq0+in_ok-r+in_ok-is_over+else-branch, else-ne}
use Rattle.flat_slow.proofs.paths.+is_over.Goals as goal

pub returns-then-cell-len : goal.returns-then-cell-len
returns-then-cell-len t c = no_is _ (no_own c.args.d.now c.args.cell c.args.skip c.args.key c.args.q (let a = c.if-cell-len.true in let b = c.len.ensures in let d = c.args.d.now.cells.ok.0 in omega arith))

pub returns-then-is_own : goal.returns-then-is_own
returns-then-is_own t c =
    let here = cell_at c.args.d.now c.args.cell c.index-here.result.now (let a = c.if-cell-len.false in let b = c.len.ensures in let d = c.args.d.now.cells.ok.0 in omega arith) c.index-here.ensures in
    let own = subst (λ (l : List SlowShape). Some_of (IsOnLayer c.args.key c.args.q) (map plain_layer l)) c.deref.ensures.value (c.if-is_own.ensures.0 refl) in
    yes_is _ (over_own (plain c.args.d.now) c.args.cell c.args.skip c.args.key c.args.q (own_to c.args.d.now c.args.cell c.index-here.result.now c.args.key c.args.q here own))

pub returns-then-branch : goal.returns-then-branch
returns-then-branch t c =
    let here = cell_at c.args.d.now c.args.cell c.index-here.result.now (let a = c.if-cell-len.false in let b = c.len.ensures in let d = c.args.d.now.cells.ok.0 in omega arith) c.index-here.ensures in
    let there = item_at c.deref-place-items.result.now c.index-here.result.now.places.items c.loop-k.k no_place c.deref-place-items.ensures.value c.loop-k-test.true in
    let place = plain_place (get_or c.deref-place-items.result.now c.loop-k.k no_place) in
    let placed = placed_at c.args.d.now c.args.cell c.index-here.result.now c.loop-k.k _ here there in
    let found = c.in_ok-is_over.ensures.0 c.if-branch.true in
    yes_is _ (over_through (plain c.args.d.now) c.args.cell c.args.skip c.args.key c.args.q c.loop-k.k place (placed, not_skipped c.args.skip c.loop-k.k c.if-ne.ensures, (c.in_ok-r.r, found, c.in_ok-r.ensures)))

pub loop-k-preserved : goal.loop-k-preserved
loop-k-preserved t c =
    let here = cell_at c.args.d.now c.args.cell c.index-here.result.now (let a = c.if-cell-len.false in let b = c.len.ensures in let d = c.args.d.now.cells.ok.0 in omega arith) c.index-here.ensures in
    let there = item_at c.deref-place-items.result.now c.index-here.result.now.places.items c.loop-k.k no_place c.deref-place-items.ensures.value c.loop-k-test.true in
    let place = plain_place (get_or c.deref-place-items.result.now c.loop-k.k no_place) in
    let placed = placed_at c.args.d.now c.args.cell c.index-here.result.now c.loop-k.k _ here there in
    none_more (plain c.args.d.now) c.args.cell c.args.skip c.args.key c.args.q c.loop-k.k c.loop-k.invariant (elim c.if-ne.branch [
      | then-ne+else-depth-eq0+in_ok-r+in_ok-is_over+else-branch w ↦
          λ p h. let e = w.in_ok-is_over.ensures.1 (through_from (plain c.args.d.now) c.args.cell c.args.skip c.args.key c.args.q w.in_ok-r.r c.loop-k.k p place placed w.in_ok-r.ensures h) in
          let f = w.if-branch.false in let g : false ≡ true = sym f ∙ e in let z : ⊥ = cc in z
      | else-ne w ↦ λ p h. h.1 (skipped c.args.skip c.loop-k.k w.if-ne.ensures)
    ])

pub returns : goal.returns
returns t c =
    let here = cell_at c.args.d.now c.args.cell c.index-here.result.now (let a = c.if-cell-len.false in let b = c.len.ensures in let d = c.args.d.now.cells.ok.0 in omega arith) c.index-here.ensures in
    let past = ap (λ (l : List SlowPlace). length l) c.deref-place-items.ensures.value in
    no_is _ (none_within c.args.d.now c.args.cell c.index-here.result.now c.args.skip c.args.key c.args.q c.loop-k.k here (let a = c.loop-k-test.false in omega arith)
    (λ own. let f : false ≡ true = c.if-is_own.ensures.1 (subst (λ (l : List SlowShape). Some_of (IsOnLayer c.args.key c.args.q) (map plain_layer l)) (sym c.deref.ensures.value) own) in let z : ⊥ = cc in z)
    c.loop-k.invariant)
