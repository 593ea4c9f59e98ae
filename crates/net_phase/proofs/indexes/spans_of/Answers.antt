use Rattle.std.proofs.Common.{arith}
use Rattle.net_phase.proofs.indexes.spans_of.Goals as goal
use Rattle.net_walk.proofs.Walking.{close_at}

pub span_of-requires-clause-close : goal.span_of-requires-clause-close
span_of-requires-clause-close c = close_at c.args.elements.now c.loop-k.k c.requires.close (omega arith)
