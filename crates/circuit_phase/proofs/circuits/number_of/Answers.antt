use Rattle.std.proofs.Common.{get_or, refl, arith}
use Rattle.circuit_phase.proofs.Numbers.{number_none, number_there}
use Rattle.circuit_phase.proofs.circuits.number_of.Goals as goal

pub returns-then-at-cells : goal.returns-then-at-cells
returns-then-at-cells c =
    let high = c.if-at-cells.true in
    number_none c.args.cells.now c.args.numbers.now c.args.cell (get_or c.args.numbers.now c.args.cell 0) c.requires.numbers refl (λ lt e. omega (arith, high, lt))

pub returns-then-cells-at : goal.returns-then-cells-at
returns-then-cells-at c =
    let other = c.if-cells-at.true in
    number_none c.args.cells.now c.args.numbers.now c.args.cell (get_or c.args.numbers.now c.args.cell 0) c.requires.numbers refl (λ lt e. other e)

pub returns : goal.returns
returns c =
    let low = c.if-at-cells.false in
    let same = c.if-cells-at.false in
    number_there c.args.cells.now (get_or c.args.numbers.now c.args.cell 0) c.args.cell (omega (arith, low)) same
