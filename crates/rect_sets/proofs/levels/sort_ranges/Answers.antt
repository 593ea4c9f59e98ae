use Rattle.std.proofs.Common.{rules, ℤ}
use Rattle.std.proofs.lemmas.List.Sorted.{answers_always}
use Rattle.geo_base.specs.declared.shapes.Rect.{Rect}
use Rattle.rect_sets.proofs.levels.sort_ranges.Goals as goal

pub returns-clause-sorted : goal.returns-clause-sorted
returns-clause-sorted c =
    let key : Rect → ℤ × ℤ = λ (r : Rect). (r.x1, r.x2) in
    c.sort_unstable_by_key.ensures.sorted key (answers_always _ _ _ (λ f a r g h. search rules))
