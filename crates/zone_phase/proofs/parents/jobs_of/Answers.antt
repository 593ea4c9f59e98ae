use Rattle.std.proofs.Common.{slice_index_or}
use Rattle.std.proofs.lemmas.Option.{slice_get-get_or}
use Rattle.zone_phase.specs.declared.uses.Use.{Use}
use Rattle.zone_phase.proofs.Graphing.{jobs_below, jobs_more}
use Rattle.zone_phase.proofs.parents.jobs_of.Goals as goal

abbrev no_use : Use
no_use = record { job = 0; index = 0 }

pub push_job-requires : goal.push_job-requires
push_job-requires c =
    let k = c.loop-found.found-index in let uses = c.args.uses.now in
    jobs_below uses k (slice_index_or uses k no_use) c.loop-found.jobs.items c.requires (slice_get-get_or uses k no_use c.loop-found-test.true) c.loop-found.invariant

pub loop-found-preserved : goal.loop-found-preserved
loop-found-preserved c =
    let k = c.loop-found.found-index in let uses = c.args.uses.now in
    jobs_more uses k (slice_index_or uses k no_use) c.loop-found.jobs.items c.push_job.new.jobs.items (slice_get-get_or uses k no_use c.loop-found-test.true) c.loop-found.invariant
    c.in_ok-push_job.ensures.ascend c.in_ok-push_job.ensures.all
