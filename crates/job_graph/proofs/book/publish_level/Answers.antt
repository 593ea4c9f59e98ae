use Rattle.std.proofs.Common.{get_or, take, sym, ap, ◌∙◌}
use Rattle.std.proofs.lemmas.List.{take_more}
use Rattle.job_graph.specs.Machine.{machine_of}
use Rattle.job_graph.specs.Book.{MayPublish, with_published}
use Rattle.job_graph.proofs.Booking.{apart_next, job_published}
use Rattle.job_graph.proofs.book.publish_level.Goals as goal

pub unreachable-requires : goal.unreachable-requires
unreachable-requires c =
    let g = c.args.graph.now in let m = machine_of c.args.book.now in let k = c.loop-job.job-index in let job = get_or c.args.level.now k 0 in
    let n = apart_next (MayPublish g m) c.args.level.now k c.requires.level c.loop-job-test.true in
    let s = job_published g m (machine_of c.loop-job.book) (take k c.args.level.now) job c.loop-job.invariant.published n.0 n.1 in
    c.in_default.not-Done (c.step.ensures.answer ∙ s.0)

pub loop-job-preserved : goal.loop-job-preserved
loop-job-preserved c =
    let g = c.args.graph.now in let m = machine_of c.args.book.now in let k = c.loop-job.job-index in let job = get_or c.args.level.now k 0 in
    let n = apart_next (MayPublish g m) c.args.level.now k c.requires.level c.loop-job-test.true in
    let s = job_published g m (machine_of c.loop-job.book) (take k c.args.level.now) job c.loop-job.invariant.published n.0 n.1 in
    record { state = c.step.ensures.state; published = c.step.ensures.next ∙ s.1 ∙ ap (with_published m) (sym (take_more c.args.level.now k 0 c.loop-job-test.true)) }
