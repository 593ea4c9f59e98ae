use Rattle.std.proofs.Common.{◌+◌, ◌*◌, ◌/◌, ◌^◌, ℕ, arith, sym, ◌∙◌, subst}
use Rattle.fixed_num.specs.Real.{IsNearest, real_seen}
use Rattle.fixed_num.proofs.Turns.{is_picometres, unit_none}
use Rattle.fixed_num.proofs.Reals.{positive, nearest, nearest_once}
use Rattle.fixed_num.proofs.unit.dbu_pm.Goals.{then-metres-via-then-metres, then-metres-via-else-metres+then-nearest-eq0, then-metres-via-else-metres+else-nearest-eq0+then-nearest-gt1000000}
use Rattle.fixed_num.proofs.unit.dbu_pm.Goals as goal

pub returns-then-metres-clause-value : goal.returns-then-metres-clause-value
returns-then-metres-clause-value c = λ k h.
    let r = c.args.metres.now in
    let d = c.in_ok-divisor.ensures in
    let near = subst (λ (m : ℕ). IsNearest (r.mantissa * 16 ^ r.exponent) ((m * 2000000000000 + c.in_ok-divisor.divisor) / (2 * c.in_ok-divisor.divisor))) (sym c.from.ensures)
    (nearest r.mantissa (16 ^ r.exponent) c.in_ok-divisor.divisor d.some (positive r.exponent) d.divides) in
    let same = nearest_once _ _ k near h.nearest in
    elim c.then-metres.branch [
      | then-metres-via-then-metres w ↦ absurd (let bad = sym w.if-metres.true ∙ h.sign in cc)
      | then-metres-via-else-metres+then-nearest-eq0 w ↦ absurd (omega (arith, same, h.least, w.if-nearest-eq0.true))
      | then-metres-via-else-metres+else-nearest-eq0+then-nearest-gt1000000 w ↦ absurd (omega (arith, same, h.most, w.if-nearest-gt1000000.true))
    ]

pub returns-then-metres-clause-some : goal.returns-then-metres-clause-some
returns-then-metres-clause-some c = unit_none (real_seen c.args.metres.now) (returns-then-metres-clause-value c)

pub returns-clause-value : goal.returns-clause-value
returns-clause-value c =
    let r = c.args.metres.now in
    let d = c.in_ok-divisor.ensures in
    record {
      sign = c.if-metres.false;
      least = omega (arith, c.if-nearest-eq0.false);
      most = c.if-nearest-gt1000000.false;
      nearest = subst (λ (m : ℕ). IsNearest (r.mantissa * 16 ^ r.exponent) ((m * 2000000000000 + c.in_ok-divisor.divisor) / (2 * c.in_ok-divisor.divisor))) (sym c.from.ensures)
          (nearest r.mantissa (16 ^ r.exponent) c.in_ok-divisor.divisor d.some (positive r.exponent) d.divides);
    }

pub returns-clause-some : goal.returns-clause-some
returns-clause-some c = sym (is_picometres (real_seen c.args.metres.now) _ (returns-clause-value c))
