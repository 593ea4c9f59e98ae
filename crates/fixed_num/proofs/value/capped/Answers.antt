use Rattle.std.proofs.Common.{ℕ, subst, sym}
use Rattle.fixed_num.specs.Scan.{IsCapped}
use Rattle.fixed_num.proofs.Digits.{value_more}
use Rattle.fixed_num.proofs.value.capped.Goals as goal

pub loop-digit-preserved : goal.loop-digit-preserved
loop-digit-preserved c =
    subst (λ (n : ℕ). IsCapped n c.with_digit-number.result) (sym (value_more 0 c.args.digits.now c.loop-digit.digit-index c.requires c.loop-digit-test.true))
    (c.with_digit-number.ensures _ c.loop-digit.invariant)
