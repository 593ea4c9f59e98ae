use Rattle.std.proofs.Common.{◌*◌, ◌<◌, ◌^◌, ◌%◌, ℕ, arith, ap, sym, ◌∙◌}
use Rattle.std.proofs.Math.Nat.{mul-pos}
use Rattle.fixed_num.proofs.Reals.{positive, divided, undivided, no_angle}
use Rattle.fixed_num.proofs.real.Real8.whole_degrees.Goals as goal

pub returns-in_default : goal.returns-in_default
returns-in_default c = λ a le h.
    let r = c.args.self.now in
    let some : 0 < r.mantissa = omega (arith, c.if-self-eq0.false) in
    no_angle _ a (mul-pos some (positive r.exponent)) le c.in_default.ensures h

pub returns-then-mantissa-divisor-eq0 : goal.returns-then-mantissa-divisor-eq0
returns-then-mantissa-divisor-eq0 c =
    let r = c.args.self.now in
    ap (λ (m : ℕ). m * 16 ^ r.exponent) (sym c.from-mantissa.ensures)
    ∙ divided _ (16 ^ r.exponent) _ (16 ^ 78) c.in-Some.ensures.divides c.if-mantissa-divisor-eq0.true

pub returns-else-mantissa-divisor-eq0 : goal.returns-else-mantissa-divisor-eq0
returns-else-mantissa-divisor-eq0 c = λ a le h.
    let r = c.args.self.now in
    let d = c.in-Some.divisor in
    c.if-mantissa-divisor-eq0.false
    (ap (λ (m : ℕ). m % d) c.from-mantissa.ensures
    ∙ undivided r.mantissa (16 ^ r.exponent) d (16 ^ 78) (90 * a) (positive r.exponent) c.in-Some.ensures.divides h)
