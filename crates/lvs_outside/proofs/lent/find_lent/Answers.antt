use Rattle.std.proofs.Common.{◌≡◌, ◌<◌, true, false, length, arith, get_or, subst, ℕ}
use Rattle.std.specs.Str.{bytes_eq}
use Rattle.lvs_outside.proofs.FirstLent.{Skips, no_lent, skips_to, skips_more, skips_all}
use Rattle.lvs_outside.proofs.lent.find_lent.Goals as goal

pub returns-then-eq : goal.returns-then-eq
returns-then-eq c =
    let lt : c.loop-number.number < length c.args.files.now = omega arith in
    let same : bytes_eq (get_or c.args.files.now c.loop-number.number no_lent).path.now c.args.path.now ≡ true = cc (c.if-eq.ensures) in
    skips_to c.args.files.now c.args.path.now c.loop-number.number no_lent lt same c.loop-number.invariant

pub loop-number-preserved : goal.loop-number-preserved
loop-number-preserved c =
    let lt : c.loop-number.number < length c.args.files.now = omega arith in
    let differs : bytes_eq (get_or c.args.files.now c.loop-number.number no_lent).path.now c.args.path.now ≡ false = cc (c.if-eq.ensures) in
    skips_more c.args.files.now c.args.path.now c.loop-number.number no_lent lt differs c.loop-number.invariant

pub returns : goal.returns
returns c =
    let end : c.loop-number.number ≡ length c.args.files.now = omega arith in
    skips_all c.args.files.now c.args.path.now (subst (λ (n : ℕ). Skips c.args.files.now c.args.path.now n) end c.loop-number.invariant)
