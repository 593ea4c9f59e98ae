use Rattle.std.proofs.Common.{ℕ, arith, subst, sym}
use Rattle.match_parts.specs.Marks.{AreUnset}
use Rattle.match_parts.proofs.Listed.{set_one, set_none, set_first}
use Rattle.match_parts.proofs.marks.mark.Goals.{then-place-marks, else-place-marks}
use Rattle.match_parts.proofs.marks.mark.Goals as goal

pub loop-i-init : goal.loop-i-init
loop-i-init c = set_first c.args.numbers.now c.clear.new.marks (subst (λ (n : ℕ). AreUnset n c.clear.new.marks) (sym c.clear.auto.marks) c.clear.ensures)

pub loop-i-preserved : goal.loop-i-preserved
loop-i-preserved c = elim c.if-place-marks.branch [
  | then-place-marks w ↦ set_one c.args.numbers.now c.loop-i.i c.loop-i.marks c.if-place-marks.marks c.loop-i.invariant (omega arith) (omega arith) w.marks-is
  | else-place-marks w ↦ set_none c.args.numbers.now c.loop-i.i c.loop-i.marks c.if-place-marks.marks c.loop-i.invariant (omega arith) w.marks-is
]
