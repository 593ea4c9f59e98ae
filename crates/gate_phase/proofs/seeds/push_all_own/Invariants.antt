use Rattle.std.specs.List.{All}
use Rattle.cell_context.specs.Over.{IsPiece}
use Rattle.gate_phase.specs.Seeding.{BringsOwn}
use Rattle.cell_context.specs.Placed.{Grows}
use Rattle.gate_phase.proofs.seeds.push_all_own.Given as goal

abbrev pub invariant-loop-i : goal.invariant-loop-i
invariant-loop-i l = record {
  pieces : All (IsPiece l.plane) l.out.items;
  grows : Grows l.fn.out.items l.out.items;
  brings : BringsOwn l.design l.cell l.names l.marks l.i l.out.items;
}
