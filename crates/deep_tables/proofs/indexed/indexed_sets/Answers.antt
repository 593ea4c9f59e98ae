use Rattle.std.proofs.Common.{◌++◌, ◌∷◌, [], List, ap, ◌∙◌}
use Rattle.geo_base.specs.declared.shapes.Rect.{Rect}
use Rattle.cell_graph.proofs.Finishes.{one_yielded}
use Rattle.deep_tables.proofs.indexed.indexed_sets.Goals as goal

pub loop-set-preserved : goal.loop-set-preserved
loop-set-preserved c =
    let sets = c.args.sets.items in
    let inv = c.loop-set.invariant in
    let steps = (c.in-Some.ensures {u = tt}).steps.0 in
    let set = c.in-Some.set in
    let indexed = c.in_ok-indexed.indexed in
    let items = (c.in_ok-push.ensures {u = tt}).items in (
      one_yielded sets c.loop-set.yielded c.next.new.self.rest.items c.loop-set.set-iterator.rest.items set inv.0 steps,
      items ∙ ap (λ (l : List (List Rect)). l ++ indexed ∷ []) inv.1 ∙ ap (λ (x : List Rect). c.loop-set.yielded ++ x ∷ []) c.in_ok-indexed.ensures,
    )
