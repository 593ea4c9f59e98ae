use Rattle.std.proofs.Common.{◌≡◌, ◌≢◌, ◌+◌, ◌∙◌, ℕ, sym, subst, ap, arith, length, slice_index}
use Rattle.job_graph.specs.Graph.{AreAscending, has}
use Rattle.zone_phase.proofs.Graphing.{ascending_push, below_last, had, has_push, other_last, same_last}
use Rattle.zone_phase.proofs.parents.push_job.Goals.{then-count-eq0-via-then-count-eq0, then-count-eq0-via-else-count-eq0+then-index-job}
use Rattle.zone_phase.proofs.parents.push_job.Goals as goal

count_is : (n m k : ℕ) → n ≡ m → m ≡ k → n ≡ k
count_is n m k a b = a ∙ b

pub returns-in_ok-push-clause-ascend : goal.returns-in_ok-push-clause-ascend
returns-in_ok-push-clause-ascend c =
    let old = c.args.jobs.now.items in
    let count : c.len-count.result ≡ length old = (let o = c.args.jobs.now.ok.0 in let e = c.len-count.ensures in omega arith) in
    let other : (k : ℕ) → k + 1 ≡ length old → slice_index old k ≢ c.args.job = elim c.then-count-eq0.branch [
      | then-count-eq0-via-then-count-eq0 w ↦ λ k e. let z = w.if-count-eq0.true in absurd (let y : ⊥ = omega arith in y)
      | then-count-eq0-via-else-count-eq0+then-index-job w ↦ other_last old c.len-count.result w.index.result.now c.args.job count w.index.ensures w.if-index-job.true
    ] in
    subst (λ l. AreAscending 0 l (c.args.job + 1)) (sym (c.in_ok-push.ensures {u = tt}).items) (ascending_push 0 old c.args.job (below_last 0 old c.args.job c.requires other) (omega arith))

pub returns-in_ok-push-clause-all : goal.returns-in_ok-push-clause-all
returns-in_ok-push-clause-all c = λ i. ap (has i) (c.in_ok-push.ensures {u = tt}).items ∙ has_push i c.args.job c.args.jobs.now.items

pub returns-else-index-job-clause-all : goal.returns-else-index-job-clause-all
returns-else-index-job-clause-all c =
    let old = c.args.jobs.now.items in
    let count : c.len-count.result ≡ length old = (let o = c.args.jobs.now.ok.0 in let e = c.len-count.ensures in omega arith) in
    had old c.args.job (same_last old c.len-count.result c.index.result.now c.args.job count c.if-count-eq0.false c.index.ensures c.if-index-job.false)
