use Rattle.std.proofs.Common.{inl, inr, ◌-◌, ◌*◌, ◌^◌, ap, sym, ◌∙◌, subst, ◌≤◌, ◌<◌, ℕ}
use Rattle.fixed_num.proofs.Reals.{shifted, divides, below, tiny, huge, positive}
use Rattle.fixed_num.proofs.real.Real8.divisor.Goals.{then-self-lt54-via-then-self-lt54, then-self-lt54-via-else-self-lt54+then-self-gt78}
use Rattle.fixed_num.proofs.real.Real8.divisor.Goals as goal

pub returns-then-self-lt54 : goal.returns-then-self-lt54
returns-then-self-lt54 c =
    let r = c.args.self.now in
    elim c.then-self-lt54.branch [
      | then-self-lt54-via-then-self-lt54 w ↦ inl (tiny r.mantissa r.exponent r.mantissa_fits w.if-self-lt54.true)
      | then-self-lt54-via-else-self-lt54+then-self-gt78 w ↦ inr (r.mantissa * 16 ^ (r.exponent - 79), huge r.mantissa r.exponent w.if-self-gt78.true)
    ]

pub returns : goal.returns
returns c =
    let e = c.args.self.now.exponent in
    let s = shifted e c.if-self-lt54.false c.if-self-gt78.false in
    record {
      divides = ap (λ (k : ℕ). k * 16 ^ e) s ∙ divides e c.if-self-gt78.false;
      some = subst (λ (k : ℕ). 0 < k) (sym s) (positive (78 - e));
      fits = subst (λ (k : ℕ). k ≤ 2 ^ 96) (sym s) (below e c.if-self-lt54.false c.if-self-gt78.false);
    }
