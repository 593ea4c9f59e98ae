use Rattle.std.proofs.Common.{ℕ, Option, subst}
use Rattle.flat_layout.specs.Regions.{At}
use Rattle.gate_phase.specs.Rows.{IsNetAt}
use Rattle.gate_phase.proofs.terminals.held_net.Goals as goal

pub unreachable-requires : goal.unreachable-requires
unreachable-requires g c =
    let d = g.C.Cells.design c.args.cells.now in let t = g.C.Cells.tables c.args.cells.now in
    let none = subst (λ (o : Option ℕ). IsNetAt d t c.args.cell (At c.args.conductor c.args.square) o) c.in-None.is (c.in_ok-net.ensures {u = tt}) in
    none c.requires.held.0 c.requires.held.1
