use Rattle.std.specs.HashMap.{get}
use Rattle.net_model.specs.declared.netlist.Circuit.{Circuit}
use Rattle.refine_match.specs.Namesakes.{AreFirsts, AreNamesakesTo, is_same_name}
use Rattle.refine_match.proofs.namesakes.namesakes_by.Given as goal

abbrev pub invariant-loop-n : goal.invariant-loop-n
invariant-loop-n l = (right : Circuit) → AreFirsts right 0 (get is_same_name l.firsts) → AreNamesakesTo l.left right l.namesakes.items l.n
