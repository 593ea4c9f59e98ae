use Rattle.std.proofs.Common.{length, ◌+◌, subst, sym, arith}
use Rattle.fixed_num.specs.Scan.{IsStripped, power_seen}
use Rattle.fixed_num.proofs.Digits.{value-append}
use Rattle.fixed_num.proofs.Decisions.{scale_down, scale_up}
use Rattle.fixed_num.proofs.Choices.{minus_at, plus_at}
use Rattle.fixed_num.proofs.value.worth.Goals as goal

pub returns-then-power : goal.returns-then-power
returns-then-power c =
    let whole = c.args.whole.now in
    let places = c.args.places.now in
    let n = c.push_all-number.result in
    let h = subst (IsStripped n.count n.value n.zeros) (sym (value-append 0 whole places))
    (c.push_all-number.ensures.number _ (c.push_all.ensures.number 0 c.zero.ensures.number)) in
    minus_at c.args.tens c.args.most whole places (power_seen c.args.power.now) c.args.unit c.whole.result c.if-power.true
    (c.whole.ensures _ _ _ h (scale_down _ (c.args.tens + c.args.unit) (length places) _ _ (omega (arith, c.from.ensures, c.from-2.ensures)) (omega arith) c.capped-exponent.ensures))

pub returns-else-power : goal.returns-else-power
returns-else-power c =
    let whole = c.args.whole.now in
    let places = c.args.places.now in
    let n = c.push_all-number.result in
    let h = subst (IsStripped n.count n.value n.zeros) (sym (value-append 0 whole places))
    (c.push_all-number.ensures.number _ (c.push_all.ensures.number 0 c.zero.ensures.number)) in
    plus_at c.args.tens c.args.most whole places (power_seen c.args.power.now) c.args.unit c.whole-else-power.result c.if-power.false
    (c.whole-else-power.ensures _ _ _ h (scale_up _ (c.args.tens + c.args.unit) (length places) _ _ (omega (arith, c.from.ensures, c.from-2.ensures)) (omega arith) c.capped-exponent.ensures))
