use Rattle.layer_phase.specs.Looks.{AreStirredFor}
use Rattle.layer_phase.proofs.stirred.stirred_of.Given as goal

abbrev pub invariant-loop-name : goal.invariant-loop-name
invariant-loop-name l = AreStirredFor l.view.zones.now l.cell l.view.members.now l.name l.found
