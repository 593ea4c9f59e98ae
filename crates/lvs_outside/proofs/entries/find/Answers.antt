use Rattle.std.proofs.Common.{◌≡◌, ◌<◌, true, false, length, arith, get_or, string_bytes, subst, ℕ}
use Rattle.std.specs.Str.{bytes_eq}
use Rattle.lvs_outside.proofs.FirstEntry.{skips_to, skips_more, skips_all, Skips}
use Rattle.lvs_outside.proofs.entries.find.Goals as goal

pub returns-then-eq : goal.returns-then-eq
returns-then-eq c =
    let d = c.index-files-number.result in
    let lt : c.loop-number.number < length c.args.files.now = omega arith in
    let same : bytes_eq (string_bytes (get_or c.args.files.now c.loop-number.number d).path) c.args.path.now ≡ true = cc (c.if-eq.ensures) in
    skips_to c.args.files.now c.args.path.now c.loop-number.number d lt same c.loop-number.invariant

pub loop-number-preserved : goal.loop-number-preserved
loop-number-preserved c =
    let d = c.index-files-number.result in
    let lt : c.loop-number.number < length c.args.files.now = omega arith in
    let other : bytes_eq (string_bytes (get_or c.args.files.now c.loop-number.number d).path) c.args.path.now ≡ false = cc (c.if-eq.ensures) in
    skips_more c.args.files.now c.args.path.now c.loop-number.number d lt other c.loop-number.invariant

pub returns : goal.returns
returns c =
    let end : c.loop-number.number ≡ length c.args.files.now = omega arith in
    skips_all c.args.files.now c.args.path.now (subst (λ (n : ℕ). Skips c.args.files.now c.args.path.now n) end c.loop-number.invariant)
