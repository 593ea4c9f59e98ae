use Rattle.std.proofs.Common.{◌-◌, length}
use Rattle.std.specs.HashMap.{get}
use Rattle.refine_match.specs.Namesakes.{AreFirsts, is_same_name}
use Rattle.refine_match.proofs.namesakes.first_nets.Given as goal

abbrev pub invariant-loop-k : goal.invariant-loop-k
invariant-loop-k l = AreFirsts l.circuit (length l.circuit.nets.items - l.k) (get is_same_name l.firsts)
