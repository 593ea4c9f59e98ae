use Rattle.std.proofs.Common.{◌-◌}
use Rattle.match_graph.specs.Graph.{nodes_of}
use Rattle.match_rounds.specs.Classes.{IsGrown, class_count}
use Rattle.match_rounds.specs.Refined.{AreOnTheWay, resumed_web}
use Rattle.match_rounds.proofs.resuming.single_out.Given as goal

abbrev pub invariant-loop-classes : goal.invariant-loop-classes
invariant-loop-classes l = AreOnTheWay l.graph (resumed_web l.graph l.guesses) l.classes × IsGrown l.fn.classes l.classes

abbrev pub decreases-loop-classes : goal.decreases-loop-classes
decreases-loop-classes l = nodes_of l.graph - class_count l.classes
