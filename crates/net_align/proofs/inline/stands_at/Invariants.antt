use Rattle.net_align.specs.Laid.{AreStands}
use Rattle.net_align.proofs.inline.stands_at.Given as goal

abbrev pub invariant-loop-n : goal.invariant-loop-n
invariant-loop-n l = AreStands l.pins l.behind l.n l.to.items
