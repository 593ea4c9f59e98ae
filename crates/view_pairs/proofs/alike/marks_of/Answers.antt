use Rattle.view_pairs.proofs.Marked.{marked}
use Rattle.view_pairs.proofs.alike.marks_of.Goals as goal

pub returns : goal.returns
returns c = marked c.args.numbers.now c.args.count c.in_ok-marks.marks.items c.in_ok-marks.ensures.count c.in_ok-marks.ensures.marked
