use Rattle.gate_phase.proofs.Marking.{all_six}
use Rattle.gate_phase.proofs.reads.mark_device.Goals as goal

pub returns : goal.returns
returns c = let x = c.args.device.now in
    all_six x c.args.marks.now c.mark_some.new.marks c.mark_region.new.marks c.mark_some-2.new.marks c.mark_before.new.marks c.mark_before-2.new.marks c.mark_before-3.new.marks
    c.mark_some.ensures c.mark_region.ensures c.mark_some-2.ensures c.mark_before.ensures c.mark_before-2.ensures c.mark_before-3.ensures
