use Rattle.std.proofs.Common.{arith}
use Rattle.net_phase.proofs.Nearing.{same_indexes}
use Rattle.net_phase.proofs.wired.Wired.new.Goals as goal

pub invariant_of-result : goal.invariant_of-result
invariant_of-result c =
    let count = c.in_ok-wires.ensures.globals in
    record {
      rules = c.requires.rules;
      few = omega (arith, count);
      wires = c.in_ok-wires.ensures;
      elements = c.in_ok-elements.ensures;
      own = c.in_ok-own.ensures;
      indexes = same_indexes c.args.design.now _ _ _ _ _ c.in_ok-indexes.indexes c.deref.ensures.value c.deref-2.ensures.value c.in_ok-indexes.ensures;
    }
