use Rattle.std.proofs.Common.{◌*◌, ◌^◌, ℕ, ◌∙◌, ap, true, false}
use Rattle.fixed_num.specs.Real.{real_seen}
use Rattle.fixed_num.proofs.Turns.{quarter_is}
use Rattle.fixed_num.proofs.real.Real8.quarter.Goals as goal

pub returns-then-self : goal.returns-then-self
returns-then-self c =
    let t = c.in_ok-turns.ensures in
    quarter_is (real_seen c.args.self.now) true c.in_ok-turns.turns c.if-self.true t.0 (c.in_ok-degrees.ensures ∙ ap (λ (v : ℕ). v * 16 ^ 78) t.1)

pub returns : goal.returns
returns c =
    let t = c.in_ok-turns.ensures in
    quarter_is (real_seen c.args.self.now) false c.in_ok-turns.turns c.if-self.false t.0 (c.in_ok-degrees.ensures ∙ ap (λ (v : ℕ). v * 16 ^ 78) t.1)
