use Rattle.std.proofs.Common.{◌+◌, get_or, refl, slice_set, take, ◌∙◌, arith}
use Rattle.std.proofs.lemmas.List.{length-set}
use Rattle.circuit_phase.proofs.Series.{one_more}
use Rattle.circuit_phase.proofs.Terminals.{set_next}
use Rattle.circuit_phase.proofs.devices.number_terminals.Goals as goal

pub loop-i-preserved : goal.loop-i-preserved
loop-i-preserved c =
    let old = c.args.numbering.now in
    let mid = c.loop-i.numbering in
    let new = c.number.new.self in
    let nets = c.args.nets.now in
    let i = c.loop-i.i in
    let on = c.loop-i.on in
    let n = c.in_ok-on.field-0 in
    let low = c.loop-i-test.true in
    let few = c.requires.few in
    let four = c.loop-i.invariant.four in
    let next = set_next on i n (omega (arith, low, few, four)) in
    record {
      are = one_more old.count mid.count new.count old.nets mid.nets new.nets nets (take i on) (take (i + 1) (slice_set on i n)) i (get_or nets i 0) n
          c.loop-i-test.true refl c.in_ok-on.ensures.count c.in_ok-on.ensures.nets c.in_ok-on.ensures.number c.in_ok-on.ensures.next next c.loop-i.invariant.are;
      four = length-set on i n ∙ four;
    }
