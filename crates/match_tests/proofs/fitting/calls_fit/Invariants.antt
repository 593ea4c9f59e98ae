use Rattle.match_types.specs.Children.{children_of}
use Rattle.match_tests.specs.Fitting.{AreCallsFit}
use Rattle.match_tests.proofs.fitting.calls_fit.Given as goal

abbrev pub invariant-loop-k : goal.invariant-loop-k
invariant-loop-k l = AreCallsFit l.circuit (children_of l.children) l.k
