use Rattle.std.proofs.Common.{◌≡◌, take}
use Rattle.job_graph.specs.Machine.{IsStateOf, machine_of}
use Rattle.job_graph.specs.Book.{with_claimed}
use Rattle.job_graph.proofs.book.claim_level.Given as goal

abbrev pub invariant-loop-job : goal.invariant-loop-job
invariant-loop-job l = record {
  state : IsStateOf l.graph l.book;
  claimed : machine_of l.book ≡ with_claimed (machine_of l.fn.book) (take l.job-index l.level);
}
