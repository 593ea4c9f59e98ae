use Rattle.std.proofs.Common.{List, ℕ, length, ap, arith}
use Rattle.cell_graph.specs.Linked.{plain}
use Rattle.deep_tables.specs.Gates.{gates_of}
use Rattle.circuit_phase.proofs.Filtering.{all_listed}
use Rattle.circuit_phase.proofs.ordered.circuit_cells.Goals as goal

pub returns : goal.returns
returns c =
    let d = c.args.design.now in
    let long = ap (λ (l : List ℕ). length l) c.order-cell-items.ensures in
    all_listed (plain d) (gates_of c.args.gates.now) c.in_ok-marks.marks.items d.order c.loop-cell.cell-index c.loop-cell.cells.items (omega (arith, long)) c.in_ok-marks.ensures.marked c.loop-cell.invariant
