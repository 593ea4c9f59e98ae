use Rattle.zone_phase.specs.Graph.{AreJobsOf}
use Rattle.zone_phase.proofs.parents.jobs_of.Given as goal

abbrev pub invariant-loop-found : goal.invariant-loop-found
invariant-loop-found l = AreJobsOf l.uses l.found-index l.jobs.items
