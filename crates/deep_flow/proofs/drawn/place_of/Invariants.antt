use Rattle.deep_flow.proofs.Few.{NoneTo}
use Rattle.deep_flow.proofs.drawn.place_of.Given as goal

abbrev pub invariant-loop-i : goal.invariant-loop-i
invariant-loop-i l = NoneTo l.cells l.cell l.i
