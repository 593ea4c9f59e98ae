use Rattle.std.proofs.Common.{sym}
use Rattle.view_drawing.proofs.Marking.{marked}
use Rattle.view_drawing.proofs.called.cell_marks.Goals as goal

pub returns-then-has_circuit : goal.returns-then-has_circuit
returns-then-has_circuit c b =
    marked c.args.circuits.now c.args.pins.now c.args.cell b c.of.result.now c.deref.result.now c.drawn.result.now c.in_ok-marks.marks.items c.in_ok-marks.ensures c.deref.ensures.value c.of.ensures c.drawn.ensures (sym c.if-has_circuit.ensures)
