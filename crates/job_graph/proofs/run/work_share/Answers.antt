use Rattle.std.proofs.Common.{rules, slice_index}
use Rattle.std.proofs.lemmas.List.Elements.{All-push}
use Rattle.job_graph.specs.Sharing.{IsRight}
use Rattle.job_graph.proofs.run.work_share.Goals as goal

pub loop-preserved : goal.loop-preserved
loop-preserved g c =
    let defined = g.P.Out.Defined.is_defined in let key = g.P.Phase.key c.args.phase.now in let graph = g.P.Phase.graph c.args.phase.now in
    let job = slice_index c.args.level.now c.fetch_add-place.result in
    rw (c.in_ok-push.ensures {u = tt}).items (All-push (IsRight defined key graph) c.loop.done.items (job, c.in_ok-value.value) c.loop.invariant
    (record { within = (c.requires.ready c.fetch_add-place.result 0 (search rules)).within; defined = c.in_ok-value.ensures }))
