use Rattle.std.proofs.Common.{◌≡◌, ◌+◌, ◌*◌, ◌/◌, ◌%◌, ◌^◌, ◌<◌, ℕ, subst, sym, ap, ◌∙◌, arith}
use Rattle.std.proofs.Math.Nat.{mod-lt}
use Rattle.std.proofs.lemmas.Nat.{div-add-mod'}
use Rattle.fixed_num.proofs.Fractions.{more_digit}
use Rattle.fixed_num.proofs.micron.push_fraction.Goals as goal

pub loop-rest-preserved : goal.loop-rest-preserved
loop-rest-preserved c =
    let r : ℕ = c.loop-rest.rest * 10 in
    let unit = c.args.unit in
    let some : 0 < unit = omega (arith, c.requires.below) in
    let split : r ≡ r / unit * 10 ^ c.args.tens + r % unit = sym (div-add-mod' r unit) ∙ ap (λ (t : ℕ). r / unit * t + r % unit) c.requires.unit in
    let low : r % unit < 10 ^ c.args.tens = subst (λ (t : ℕ). r % unit < t) c.requires.unit (mod-lt r some) in
    more_digit c.args.tens c.args.value c.loop-rest.rest (r / unit) (r % unit) _ _ _ c.loop-rest-test.true split low c.in_ok-push.ensures.items c.loop-rest.invariant
