use Rattle.std.proofs.Common.{◌≡◌, ◌+◌, ◌∷◌, [], ◌∙◌, None, Some, length-append, refl, ap}
use Rattle.gate_phase.proofs.Indexing.{indexes_more}
use Rattle.gate_phase.proofs.indexes.cell_indexes.Goals as goal

pub loop-name-init : goal.loop-name-init
loop-name-init c = rw c.new-indexes.ensures.items (record {
  long = refl;
  right = λ name rects e. absurd (let f : None ≡ Some rects = e in let z : ⊥ = cc in z);
})

pub loop-name-preserved : goal.loop-name-preserved
loop-name-preserved c =
    let old = c.loop-name.indexes.items in let o = c.in_ok-index.index in
    rw c.in_ok-push.ensures.items (record {
      long = length-append old (o ∷ []) ∙ ap (λ n. n + 1) c.loop-name.invariant.long;
      right = indexes_more c.args.layers.now c.args.cell c.loop-name.name old o c.loop-name.invariant.long c.loop-name.invariant.right c.in_ok-index.ensures;
    })
