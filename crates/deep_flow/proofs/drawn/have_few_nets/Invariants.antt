use Rattle.deep_flow.proofs.Few.{FewTo}
use Rattle.deep_flow.proofs.drawn.have_few_nets.Given as goal

abbrev pub invariant-loop-value : goal.invariant-loop-value
invariant-loop-value l = FewTo l.values l.value-index
