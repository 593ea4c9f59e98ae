use Rattle.std.proofs.Common.{rules, arith, ℤ}
use Rattle.std.proofs.lemmas.List.Sorted.{answers_always}
use Rattle.rect_sets.specs.declared.sums.End.{End}
use Rattle.rect_sets.proofs.Summing.{rising_ends}
use Rattle.rect_sets.proofs.sums.sort_ends.Goals as goal

pub returns-clause-sorted : goal.returns-clause-sorted
returns-clause-sorted c = rising_ends _ (λ k d lt.
    let key : End → ℤ = λ (d : End). d.y in
    c.in_ok-sort_by_key.ensures.sorted key (answers_always _ _ _ (λ f a r g h. search rules)) k d (omega arith) lt)
