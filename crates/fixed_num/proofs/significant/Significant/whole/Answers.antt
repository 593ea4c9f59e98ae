use Rattle.std.proofs.Common.{◌+◌, ◌-◌, ◌*◌, ◌^◌, ◌<◌, ◌≤◌, ℕ, refl, arith, ap}
use Rattle.fixed_num.proofs.Decisions.{too_fine, large_by_fraction, large_by_length, whole_worth, large_worth, tens_fit, digits_fit}
use Rattle.fixed_num.proofs.significant.Significant.whole.Goals as goal

pub returns-then-self-up : goal.returns-then-self-up
returns-then-self-up c = λ m u d h scale.
    let s = c.args.self in
    let some : 0 < s.count = omega (arith, c.if-self-eq0.false) in
    too_fine c.args.tens s.count s.value s.zeros c.args.up c.args.down m u d some c.requires.room c.if-up-down.true (omega (arith, c.if-self-up.true, c.from-places.ensures)) h scale

pub returns-then-up-down : goal.returns-then-up-down
returns-then-up-down c = λ m u d h scale.
    let s = c.args.self in
    let some : 0 < s.count = omega (arith, c.if-self-eq0.false) in
    large_by_fraction c.args.tens s.count s.value s.zeros c.args.up c.args.down m u d some c.requires.room c.if-up-down.true (omega (arith, c.if-self-up.false, c.from-places.ensures)) h scale

pub returns-then-self-shift : goal.returns-then-self-shift
returns-then-self-shift c = λ m u d h scale.
    let s = c.args.self in
    let some : 0 < s.count = omega (arith, c.if-self-eq0.false) in
    large_by_length c.args.tens s.count s.value s.zeros c.args.up c.args.down m u d some c.requires.room c.if-up-down.false (omega (arith, c.if-self-shift.true, c.from-places.ensures)) c.requires.tens h scale

pub pow-requires : goal.pow-requires
pow-requires c = tens_fit (c.args.up + c.args.self.zeros - c.args.down) (omega (arith, c.if-self-shift.false, c.from-places.ensures, c.requires.tens))

pub overflow_mul-value : goal.overflow_mul-value
overflow_mul-value c =
    let s = c.args.self in
    let shift : ℕ = c.args.up + s.zeros - c.args.down in
    let fits = tens_fit (s.count + shift) (omega (arith, c.if-self-shift.false, c.from-places.ensures, c.requires.tens)) in
    omega (arith, digits_fit s.value s.count shift c.pow.result (s.count + shift) s.below c.pow.ensures refl, fits)

pub pow-requires-2 : goal.pow-requires-2
pow-requires-2 c = tens_fit c.args.tens (omega (arith, c.requires.tens))

pub returns-then-value-pow : goal.returns-then-value-pow
returns-then-value-pow c = λ m u d h scale.
    let s = c.args.self in
    let is = ap (λ (k : ℕ). s.value * k) c.pow.ensures in
    let few : s.count + (c.args.up + s.zeros - c.args.down) ≤ c.args.tens + 1 = omega (arith, c.if-self-shift.false, c.from-places.ensures) in
    large_worth c.args.tens (s.value * c.pow.result) d (m * 10 ^ u) (omega (arith, c.if-value-pow.true, c.pow-2.ensures))
    (whole_worth c.args.tens s.count s.value s.zeros c.args.up c.args.down m u d (s.value * c.pow.result) c.requires.room c.if-up-down.false few c.requires.tens is h scale)

pub returns : goal.returns
returns c = λ m u d h scale.
    let s = c.args.self in
    let is = ap (λ (k : ℕ). s.value * k) c.pow.ensures in
    let few : s.count + (c.args.up + s.zeros - c.args.down) ≤ c.args.tens + 1 = omega (arith, c.if-self-shift.false, c.from-places.ensures) in (
      whole_worth c.args.tens s.count s.value s.zeros c.args.up c.args.down m u d (s.value * c.pow.result) c.requires.room c.if-up-down.false few c.requires.tens is h scale,
      omega (arith, c.if-value-pow.false, c.pow-2.ensures),
    )
