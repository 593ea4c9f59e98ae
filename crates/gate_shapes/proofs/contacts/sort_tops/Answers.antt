use Rattle.std.proofs.Common.{rules, arith, ℤ}
use Rattle.std.proofs.lemmas.List.Sorted.{answers_always}
use Rattle.rect_sets.proofs.Sorting.{follows_from}
use Rattle.gate_shapes.specs.declared.contacts.Top.{Top}
use Rattle.gate_shapes.proofs.contacts.sort_tops.Goals as goal

pub returns-clause-sorted : goal.returns-clause-sorted
returns-clause-sorted c = λ k d lt.
    let key : Top → ℤ × ℤ = λ (t : Top). (t.rect.y2, t.rect.x1) in
    follows_from _ _ _ _ (c.sort_unstable_by_key.ensures.sorted key (answers_always _ _ _ (λ f a r g h. search rules)) k d (omega arith) lt)
