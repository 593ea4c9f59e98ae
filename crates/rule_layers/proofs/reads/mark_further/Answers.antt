use Rattle.std.proofs.Common.{◌≡◌, ◌+◌, Some, refl, slice_get, length}
use Rattle.std.proofs.lemmas.Option.{slice_get_read}
use Rattle.rule_layers.specs.Reads.{IsByFurther, ReadsFurther}
use Rattle.rule_layers.proofs.Marking.{by_more, marks_as, marks_both}
use Rattle.rule_layers.proofs.reads.mark_further.Goals as goal

pub loop-rule-preserved : goal.loop-rule-preserved
loop-rule-preserved c =
    let devices = c.args.further.now in let i = c.loop-rule.rule-index in let rule = c.rule-item.result in
    let at : slice_get devices i ≡ Some rule = slice_get_read devices (length devices) i rule refl c.loop-rule-test.true c.rule-item.is in
    marks_as _ (IsByFurther devices (i + 1)) c.args.marks.now.items c.mark_one.new.marks.items (λ k lt. by_more ReadsFurther devices i k rule at)
    (marks_both (IsByFurther devices i) (ReadsFurther rule) c.args.marks.now.items c.loop-rule.marks.items c.mark_one.new.marks.items c.loop-rule.invariant c.mark_one.ensures)
