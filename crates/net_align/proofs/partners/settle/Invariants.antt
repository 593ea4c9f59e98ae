use Rattle.net_align.specs.Found.{AreSettled}
use Rattle.net_align.proofs.partners.settle.Given as goal

abbrev pub invariant-loop-a : goal.invariant-loop-a
invariant-loop-a l = AreSettled l.of l.top l.by_place l.a l.new.items
