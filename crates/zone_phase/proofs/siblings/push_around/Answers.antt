use Rattle.std.proofs.Common.{arith, sym, subst}
use Rattle.cell_context.specs.Arrays.{IsNearArray}
use Rattle.zone_phase.proofs.Bringing.{near_around}
use Rattle.zone_phase.proofs.siblings.push_around.Goals as goal

pub push_brought-requires-clause-near : goal.push_brought-requires-clause-near
push_brought-requires-clause-near c =
    let a = c.if-shifts-gt0.true in let b = c.if-shifts-gt0-2.true in
    subst IsNearArray (sym c.around-other.ensures) (near_around c.args.place.now c.args.shifts c.requires.array.close (c.requires.shifts (omega arith) (omega arith)))
