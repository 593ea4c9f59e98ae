use Rattle.std.proofs.Common.{◌≡◌, ◌+◌, ◌*◌, ◌^◌, ◌<◌, ℕ, arith, ap}
use Rattle.fixed_num.proofs.Stripped.{more_zero, more_digit, grown, ten_positive}
use Rattle.fixed_num.proofs.Decisions.{tens_fit}
use Rattle.fixed_num.proofs.significant.Significant.push.Goals as goal

pub returns-then-digit-eq0-clause-number : goal.returns-then-digit-eq0-clause-number
returns-then-digit-eq0-clause-number c = λ m h. more_zero _ _ _ c.args.digit m c.if-digit-eq0.true c.if-self-eq0.false h

pub invariant_of-result-then-count-gt31 : goal.invariant_of-result-then-count-gt31
invariant_of-result-then-count-gt31 c = record { below = ten_positive (c.args.self.count + c.args.self.zeros + 1) }

pub returns-then-count-gt31-clause-number : goal.returns-then-count-gt31-clause-number
returns-then-count-gt31-clause-number c = λ m h.
    let some : 0 < c.args.digit = omega (arith, c.if-digit-eq0.false) in
    more_digit _ c.args.self.value _ c.args.digit 0 m some c.requires.digit (λ few. absurd (omega (arith, few, c.if-count-gt31.true))) h

pub invariant_of-result-2 : goal.invariant_of-result-2
invariant_of-result-2 c =
    let s = c.args.self in
    let shifted : s.value * c.pow.result ≡ s.value * 10 ^ (s.zeros + 1) = ap (λ (k : ℕ). s.value * k) c.pow.ensures in
    record { below = omega (arith, shifted, c.from.ensures, grown s.count s.zeros s.value c.args.digit s.below c.requires.digit) }

pub returns-clause-number : goal.returns-clause-number
returns-clause-number c = λ m h.
    let s = c.args.self in
    let some : 0 < c.args.digit = omega (arith, c.if-digit-eq0.false) in
    let shifted : s.value * c.pow.result ≡ s.value * 10 ^ (s.zeros + 1) = ap (λ (k : ℕ). s.value * k) c.pow.ensures in
    more_digit _ s.value _ c.args.digit _ m some c.requires.digit (λ few. omega (arith, shifted, c.from.ensures)) h

pub pow-requires : goal.pow-requires
pow-requires c = tens_fit (c.args.self.zeros + 1) (omega (arith, c.if-count-gt31.false))

pub overflow_mul-shifted : goal.overflow_mul-shifted
overflow_mul-shifted c =
    let s = c.args.self in
    let shifted : s.value * c.pow.result ≡ s.value * 10 ^ (s.zeros + 1) = ap (λ (k : ℕ). s.value * k) c.pow.ensures in
    let fits = tens_fit (s.count + s.zeros + 1) (omega (arith, c.if-count-gt31.false)) in
    omega (arith, shifted, grown s.count s.zeros s.value 0 s.below (omega arith), fits)

pub overflow_add-result-2 : goal.overflow_add-result-2
overflow_add-result-2 c =
    let s = c.args.self in
    let shifted : s.value * c.pow.result ≡ s.value * 10 ^ (s.zeros + 1) = ap (λ (k : ℕ). s.value * k) c.pow.ensures in
    let fits = tens_fit (s.count + s.zeros + 1) (omega (arith, c.if-count-gt31.false)) in
    omega (arith, shifted, c.from.ensures, grown s.count s.zeros s.value c.args.digit s.below c.requires.digit, fits)
