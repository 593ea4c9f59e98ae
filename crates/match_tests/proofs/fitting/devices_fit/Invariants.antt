use Rattle.match_tests.specs.Fitting.{AreDevicesFit}
use Rattle.match_tests.proofs.fitting.devices_fit.Given as goal

abbrev pub invariant-loop-k : goal.invariant-loop-k
invariant-loop-k l = AreDevicesFit l.circuit l.k
