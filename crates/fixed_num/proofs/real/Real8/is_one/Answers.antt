use Rattle.std.proofs.Common.{◌*◌, ◌^◌, ℕ, sym, ◌∙◌, ap, Bool}
use Rattle.std.specs.Prelude.{◌==◌, ◌&&◌, not}
use Rattle.fixed_num.proofs.Reals.{positive, same_factor}
use Rattle.fixed_num.proofs.Turns.{same_test}
use Rattle.fixed_num.specs.Real.{real_seen, whole}
use Rattle.fixed_num.proofs.real.Real8.is_one.Goals as goal

pub returns-then-not-self : goal.returns-then-not-self
returns-then-not-self c =
    let r = c.args.self.now in
    let e = r.exponent in
    let d = c.in-Some.ensures in
    let size = same_test c.from.result c.in-Some.divisor (whole (real_seen r)) (16 ^ 78)
    (λ h. ap (λ (k : ℕ). k * 16 ^ e) (sym c.from.ensures ∙ h) ∙ d.divides)
    (λ h. c.from.ensures ∙ same_factor _ _ (16 ^ e) (positive e) (h ∙ sym d.divides)) in
    ap (λ (b : Bool). not b && c.from.result == c.in-Some.divisor) (sym c.if-not-self.true) ∙ ap (λ (b : Bool). not r.negative && b) size
