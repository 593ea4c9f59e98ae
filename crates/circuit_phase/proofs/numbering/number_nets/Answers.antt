use Rattle.std.proofs.Common.{get_or, refl}
use Rattle.circuit_phase.proofs.Series.{one_more}
use Rattle.circuit_phase.proofs.numbering.number_nets.Goals as goal

pub loop-i-preserved : goal.loop-i-preserved
loop-i-preserved c =
    let old = c.args.numbering.now in
    let mid = c.loop-i.numbering in
    let new = c.number.new.self in
    let nets = c.args.nets.now in
    one_more old.count mid.count new.count old.nets mid.nets new.nets nets c.loop-i.numbers.items c.push.new.self.items c.loop-i.i (get_or nets c.loop-i.i 0) c.in_ok-number.field-0
    c.loop-i-test.true refl c.in_ok-number.ensures.count c.in_ok-number.ensures.nets c.in_ok-number.ensures.number c.in_ok-number.ensures.next c.in_ok-push.ensures.items c.loop-i.invariant
