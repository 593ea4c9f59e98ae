use Rattle.std.proofs.Common.{◌≡◌, ◌<◌, Some, slice_get, get_or, true, false, length, sym, subst, ◌∙◌}
use Rattle.std.proofs.lemmas.Option.{slice_get-get_or}
use Rattle.std.proofs.lemmas.List.{get_or_default}
use Rattle.cell_graph.specs.Finished.{IsFromTop}
use Rattle.cell_graph.proofs.Finishes.{one_kept, one_left, top_reached, mark_reached, reached_mark}
use Rattle.cell_graph.proofs.finishing.reached.Goals as goal
use Rattle.cell_graph.proofs.finishing.reached.Goals.{then-cell-top+in_ok-push, then-cell-top-via-then-cell-top, then-cell-top-via-else-cell-top+then-index, else-cell-top+else-index}

pub loop-cell-preserved : goal.loop-cell-preserved
loop-cell-preserved c =
    let parts = c.args.parts.now in
    let order = c.args.order.now in
    let n = c.loop-cell.cell-index in
    let i = get_or order n 0 in
    let at : slice_get order n ≡ Some i = slice_get-get_or order n 0 c.loop-cell-test.true in
    let marks = c.in_ok-marks.marks.items in
    let are = c.in_ok-marks.ensures {u = tt} in
    elim c.if-cell-top.branch [
      | then-cell-top+in_ok-push w ↦
          let from : IsFromTop parts c.args.top i = elim w.then-cell-top.branch [
            | then-cell-top-via-then-cell-top v ↦ top_reached parts c.args.top i v.if-cell-top.true
            | then-cell-top-via-else-cell-top+then-index v ↦
                let lt : i < length marks = subst (λ m. i < m) (sym are.count) (c.requires.inside n i at) in
                let is : v.index.result.now ≡ get_or marks i false = v.index.ensures ∙ get_or_default marks i v.index.result.now false lt in
                mark_reached parts c.args.top i marks are (sym is ∙ v.if-index.true)
          ] in
          rw w.kept-is (rw (w.in_ok-push.ensures {u = tt}).items (one_kept parts c.args.top order n i c.loop-cell.kept.items at from c.loop-cell.invariant))
      | else-cell-top+else-index w ↦
          let lt : i < length marks = subst (λ m. i < m) (sym are.count) (c.requires.inside n i at) in
          let is : w.index.result.now ≡ get_or marks i false = w.index.ensures ∙ get_or_default marks i w.index.result.now false lt in
          rw w.kept-is (one_left parts c.args.top order n i c.loop-cell.kept.items at
          (reached_mark parts c.args.top i marks are w.if-cell-top.false (λ m. let f : w.index.result.now ≡ true = is ∙ m in let no = w.if-index.false in let z : ⊥ = cc in z)) c.loop-cell.invariant)
    ]
