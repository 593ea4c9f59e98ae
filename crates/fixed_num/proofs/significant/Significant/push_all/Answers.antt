use Rattle.std.proofs.Common.{subst, sym, arith}
use Rattle.fixed_num.specs.Scan.{IsStripped}
use Rattle.fixed_num.proofs.Digits.{value_more}
use Rattle.fixed_num.proofs.significant.Significant.push_all.Goals as goal

pub loop-digit-preserved : goal.loop-digit-preserved
loop-digit-preserved c =
    let r = c.push-number.result in (
      (λ m h. subst (IsStripped r.count r.value r.zeros) (sym (value_more m c.args.digits.now c.loop-digit.digit-index c.requires.digits c.loop-digit-test.true))
          (c.push-number.ensures.number _ (c.loop-digit.invariant.0 m h))),
      omega (arith, c.push-number.ensures.room, c.loop-digit.invariant.1),
    )
