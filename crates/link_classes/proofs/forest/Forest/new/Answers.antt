use Rattle.std.proofs.Common.{ℕ, ◌+◌, List, get_or, length, ◌∙◌, sym, ap, subst}
use Rattle.link_classes.proofs.Pushes.{alone_push, defaults_push, length_more}
use Rattle.link_classes.proofs.Trees.{alone_forest}
use Rattle.link_classes.proofs.forest.Forest.new.Goals as goal
use Rattle.link_classes.specs.Forest.{AreAlone}

pub returns-clause-forest : goal.returns-clause-forest
returns-clause-forest c =
    let own = c.loop-i.invariant.0 in
    let p = c.loop-i.parent.items in
    alone_forest p c.loop-i.rank.items (c.loop-i.invariant.1 ∙ sym own.long) (subst (λ n. AreAlone p n) (sym own.long) own) c.loop-i.invariant.2

pub loop-i-preserved : goal.loop-i-preserved
loop-i-preserved c =
    let p = c.in_ok-push.ensures.items in
    let r = c.in_ok-push-2.ensures.items in
    let i = c.loop-i.i in
    let h = c.loop-i.invariant in (
      subst (λ (l : List ℕ). AreAlone l (i + 1)) (sym p) (alone_push c.loop-i.parent.items i h.0),
      ap (λ (l : List ℕ). length l) r ∙ length_more c.loop-i.rank.items 0 i h.1,
      λ k. ap (λ (l : List ℕ). get_or l k 0) r ∙ defaults_push c.loop-i.rank.items 0 h.2 k,
    )
