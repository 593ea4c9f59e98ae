use Rattle.std.proofs.Common.{◌≡◌, ◌≤◌, length, take}
use Rattle.job_graph.specs.Machine.{IsStateOf, machine_of}
use Rattle.job_graph.proofs.Booking.{arriving}
use Rattle.job_graph.proofs.book.arrive_all.Given as goal

abbrev pub invariant-loop-left : goal.invariant-loop-left
invariant-loop-left l = record {
  left : l.left ≤ length l.inputs;
  state : IsStateOf l.graph l.book;
  arrived : machine_of l.book ≡ arriving (machine_of l.fn.book) l.job (take l.left l.inputs);
}

abbrev pub decreases-loop-left : goal.decreases-loop-left
decreases-loop-left l = l.left
