use Rattle.std.proofs.Common.{get_or, refl}
use Rattle.circuit_phase.proofs.Numbers.{name_of, one_name}
use Rattle.circuit_phase.proofs.circuits.cell_names.Goals as goal

pub loop-cell-preserved : goal.loop-cell-preserved
loop-cell-preserved c =
    let d = c.args.design.now in
    let n = c.loop-cell.cell-index in
    let cell = get_or c.args.cells.now n 0 in
    one_name d c.args.cells.now c.loop-cell.names.items c.push.new.self.items n cell c.name.result c.loop-cell-test.true refl (name_of d cell c.name.result.now (c.requires n c.loop-cell-test.true) c.name.ensures) c.in_ok-push.ensures.items c.loop-cell.invariant
