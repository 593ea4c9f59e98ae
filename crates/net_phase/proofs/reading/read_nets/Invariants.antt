use Rattle.std.proofs.Common.{◌≡◌, length}
use Rattle.net_phase.proofs.Results.{AreReadTo}
use Rattle.net_phase.proofs.reading.read_nets.Given as goal
use Rattle.net_phase.specs.Reading.{nets_of}

abbrev pub invariant-loop : goal.invariant-loop
invariant-loop g l = length l.nets.items ≡ l.counter

abbrev pub invariant-loop-input : goal.invariant-loop-input
invariant-loop-input g l = AreReadTo (g.R.Reads.value l.reads) l.inputs l.order l.cells l.input-index (nets_of l.nets.items)
