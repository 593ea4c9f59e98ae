use Rattle.std.proofs.Common.{refl, inl, inr, false, arith}
use Rattle.match_rounds.proofs.Whole.{whole, full}
use Rattle.match_rounds.proofs.starting.one_class.Goals as goal
use Rattle.match_rounds.proofs.starting.one_class.Goals.{then-count-eq0, else-count-eq0}

pub returns-clause-partition : goal.returns-clause-partition
returns-clause-partition c =
    whole _ c.args.left_count c.args.count c.if-count-eq0.classes (record {
      inside = c.requires.left;
      small = c.ranges.count.fits;
      few = elim c.if-count-eq0.branch [
        | then-count-eq0 w ↦ inl (w.if-count-eq0.true, w.classes-is)
        | else-count-eq0 w ↦ inr (omega (arith, w.if-count-eq0.false), w.classes-is)
      ];
      placed = c.in_ok-order.ensures;
      class = full _ _ _ 0 (c.in_ok-vec.ensures.items_if_clones_equal (λ x e. e));
      begin = full _ _ _ 0 (c.in_ok-vec-2.ensures.items_if_clones_equal (λ x e. e));
      size = full _ _ _ 0 (c.in_ok-vec-3.ensures.items_if_clones_equal (λ x e. e));
      left_is = full _ _ _ 0 (c.in_ok-vec-4.ensures.items_if_clones_equal (λ x e. e));
      flag = refl;
      marks = full _ _ _ false (c.in_ok-vec-5.ensures.items_if_clones_equal (λ x e. e));
      fresh = full _ _ _ 0 (c.in_ok-vec-6.ensures.items_if_clones_equal (λ x e. e));
    })
