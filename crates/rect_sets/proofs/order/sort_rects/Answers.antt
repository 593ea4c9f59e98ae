use Rattle.std.proofs.Common.{rules, arith, ℤ}
use Rattle.std.proofs.lemmas.List.Sorted.{answers_always}
use Rattle.geo_base.specs.declared.shapes.Rect.{Rect}
use Rattle.rect_sets.proofs.Sorting.{follows_from}
use Rattle.rect_sets.proofs.order.sort_rects.Goals as goal

pub returns-clause-sorted : goal.returns-clause-sorted
returns-clause-sorted c = λ k d lt.
    let key : Rect → ℤ × ℤ = λ (r : Rect). (r.y1, r.x1) in
    follows_from _ _ _ _ (c.sort_unstable_by_key.ensures.sorted key (answers_always _ _ _ (λ f a r g h. search rules)) k d (omega arith) lt)
