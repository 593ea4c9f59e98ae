use Rattle.std.proofs.Common.{◌≡◌, ◌+◌, Some, refl, slice_get, length}
use Rattle.std.proofs.lemmas.Option.{slice_get_read}
use Rattle.rule_layers.specs.Reads.{IsByDevice, ReadsLayer}
use Rattle.rule_layers.proofs.Marking.{by_more, marks_as, marks_both}
use Rattle.rule_layers.proofs.reads.mark_devices.Goals as goal

pub loop-device-preserved : goal.loop-device-preserved
loop-device-preserved c =
    let devices = c.args.devices.now in let i = c.loop-device.device-index in let rule = c.device-item.result in
    let at : slice_get devices i ≡ Some rule = slice_get_read devices (length devices) i rule refl c.loop-device-test.true c.device-item.is in
    marks_as _ (IsByDevice devices (i + 1)) c.args.marks.now.items c.mark_device.new.marks.items (λ k lt. by_more ReadsLayer devices i k rule at)
    (marks_both (IsByDevice devices i) (ReadsLayer rule) c.args.marks.now.items c.loop-device.marks.items c.mark_device.new.marks.items c.loop-device.invariant c.mark_device.ensures)
