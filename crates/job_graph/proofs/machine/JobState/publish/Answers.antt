use Rattle.std.proofs.Common.{◌<◌, length, Some, None, true, false, refl, ap, ◌∙◌, arith, length-set}
use Rattle.job_graph.specs.declared.machine.Event.TheVariants.{Publish}
use Rattle.job_graph.proofs.States.{read, many_more, publish_next}
use Rattle.job_graph.proofs.machine.JobState.publish.Goals as goal

pub returns-in-Some-clause-state : goal.returns-in-Some-clause-state
returns-in-Some-clause-state c =
    let s = c.args.self.now in let v = c.requires in
    let g : c.args.job < length c.args.graph.now = (let e = c.jobs.ensures.count in let f = c.if-job-jobs.false in omega arith) in
    let l : c.args.job < length s.claimed.items = (let f = v.claimed in omega arith) in let m : c.args.job < length s.published.items = (let f = v.published in omega arith) in
    many_more c.args.graph.now s _ (Publish c.args.worker c.args.job) v refl refl (length-set s.published.items c.args.job true)
    (publish_next c.args.graph.now s c.args.worker c.args.job v g
    (read s.claimed.items c.args.job c.index-2.result.now None l c.index-2.ensures ∙ c.in-Some.is ∙ ap (λ x. Some x) c.if-by-worker.true)
    (read s.published.items c.args.job c.index.result.now false m c.index.ensures ∙ c.if-index.false))
