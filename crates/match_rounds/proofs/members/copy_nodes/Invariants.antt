use Rattle.match_rounds.specs.Members.{IsCopied}
use Rattle.match_rounds.proofs.members.copy_nodes.Given as goal

abbrev pub invariant-loop-k : goal.invariant-loop-k
invariant-loop-k l = IsCopied l.fn.members.items l.members.items l.nodes l.from l.k
