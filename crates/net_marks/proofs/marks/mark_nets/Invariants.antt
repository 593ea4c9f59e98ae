use Rattle.net_marks.proofs.Terminals.{AreNetsMarked}
use Rattle.net_marks.proofs.marks.mark_nets.Given as goal

abbrev pub invariant-loop-net : goal.invariant-loop-net
invariant-loop-net l = AreNetsMarked l.fn.marks l.nets l.net-index l.marks
