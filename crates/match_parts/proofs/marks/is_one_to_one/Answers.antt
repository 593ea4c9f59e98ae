use Rattle.std.proofs.Common.{◌≡◌, ℕ, length, ◌==◌, arith, sym, subst, Decides}
use Rattle.std.proofs.lemmas.List.{take_all}
use Rattle.match_parts.specs.Marks.{StandsOnce}
use Rattle.match_parts.proofs.Marked.{marked_all, one_to_one, too_high, twice}
use Rattle.match_parts.proofs.marks.is_one_to_one.Goals as goal

pub returns-then-place-marks : goal.returns-then-place-marks
returns-then-place-marks c =
    let h = c.loop-i.invariant in
    let long = h.long in
    one_to_one _ c.args.numbers.now (length c.args.marks.now) (too_high c.args.numbers.now (length c.args.marks.now) c.loop-i.i (omega arith) (omega arith))

pub returns-then-marks-place : goal.returns-then-marks-place
returns-then-marks-place c =
    let h = c.loop-i.invariant in
    let long = h.long in
    one_to_one _ c.args.numbers.now (length c.args.marks.now) (twice c.args.numbers.now c.loop-i.i (length c.args.marks.now) c.loop-i.marks h (omega arith) (omega arith) c.if-marks-place.true)

pub returns : goal.returns
returns c =
    let h = c.loop-i.invariant in
    let e : c.loop-i.i ≡ length c.args.numbers.now = omega arith in
    let d : Decides (length c.args.numbers.now == length c.args.marks.now) (StandsOnce c.args.numbers.now (length c.args.marks.now))
    = marked_all c.args.numbers.now c.loop-i.i (length c.args.marks.now) c.loop-i.marks h e (take_all c.loop-i.i c.args.numbers.now (omega arith)) in
    one_to_one _ c.args.numbers.now (length c.args.marks.now)
    (subst (λ (n : ℕ). Decides (length c.args.numbers.now == n) (StandsOnce c.args.numbers.now (length c.args.marks.now))) (sym h.long) d)
