use Rattle.std.proofs.Common.{◌<◌, All, sym, subst, ◌∷◌}
use Rattle.std.proofs.lemmas.List.Elements.{All-head, All-tail}
use Rattle.job_graph.specs.Sharing.{IsRight}
use Rattle.job_graph.proofs.Finding.{put_keeps, put_right}
use Rattle.job_graph.proofs.run.keep_share.Goals as goal

pub loop-job-preserved : goal.loop-job-preserved
loop-job-preserved g c =
    let defined = g.P.Out.Defined.is_defined in let key = g.P.Phase.key c.args.phase.now in let graph = g.P.Phase.graph c.args.phase.now in
    let i = c.loop-job.invariant in
    let here : All (IsRight defined key graph) ((c.in-Some.job, c.in-Some.value) ∷ c.next.new.self.rest.items) = rw (c.in-Some.ensures {u = tt}).steps.0 at i.left in
    let one = All-head (IsRight defined key graph) (c.in-Some.job, c.in-Some.value) c.next.new.self.rest.items here in
    rw c.put.ensures (record {
      right = put_right defined key graph c.loop-job.found c.in-Some.job c.in-Some.value i.right one.within one.defined;
      keeps = λ job h. put_keeps c.loop-job.found c.in-Some.job c.in-Some.value (subst (λ n. c.in-Some.job < n) (sym i.right.count) one.within) job (i.keeps job h);
      left = All-tail (IsRight defined key graph) (c.in-Some.job, c.in-Some.value) c.next.new.self.rest.items here;
    })
