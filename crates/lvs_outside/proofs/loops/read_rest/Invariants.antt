use Rattle.std.proofs.Common.{◌-◌, vec_len}
use Rattle.lvs_outside.specs.Loops.{Follows}
use Rattle.lvs_outside.proofs.loops.read_rest.Given as goal

abbrev pub invariant-loop-buf : goal.invariant-loop-buf
invariant-loop-buf g l = Follows (g.D.Depot.state l.fn.depot) (g.D.Depot.state l.depot) l.bytes.items

abbrev pub decreases-loop-buf : goal.decreases-loop-buf
decreases-loop-buf g l = 268435457 - vec_len l.bytes
