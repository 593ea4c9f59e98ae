use Rattle.std.proofs.Common.{◌≡◌, ◌<◌, ◌≤◌, length, Some, None, refl, ap, ◌∙◌, arith, length-set}
use Rattle.job_graph.specs.Machine.{machine_of}
use Rattle.job_graph.specs.declared.machine.Event.TheVariants.{Claim}
use Rattle.job_graph.proofs.Once.{few}
use Rattle.job_graph.proofs.States.{read, read_list, nothing, many_more, claim_next}
use Rattle.job_graph.proofs.machine.JobState.claim.Goals as goal

pub overflow_cast-result : goal.overflow_cast-result
overflow_cast-result c =
    let s = c.args.self.now in let v = c.requires in let lt = c.if-job-jobs.false in let fits = c.ranges.job.fits in
    let l : c.args.job < length s.awaits.items = (let e = c.jobs.ensures.count in let f = v.awaits in omega arith) in
    let n = few c.args.graph.now (machine_of s) c.jobs.ensures.sound v.reached c.args.job in
    let e = ap length (read_list s.awaits.items c.args.job c.index.result.now l c.index.ensures) in
    let same : c.len-open.result ≡ length c.index.result.now.items = (let o = c.index.result.now.ok.0 in let q = c.len-open.ensures in omega arith) in omega arith

pub returns-clause-next : goal.returns-clause-next
returns-clause-next c =
    let s = c.args.self.now in let v = c.requires in
    let g : c.args.job < length c.args.graph.now = (let e = c.jobs.ensures.count in let f = c.if-job-jobs.false in omega arith) in
    let l : c.args.job < length s.awaits.items = (let f = v.awaits in omega arith) in let m : c.args.job < length s.claimed.items = (let f = v.claimed in omega arith) in
    let none : length c.index.result.now.items ≤ 0 = (let o = c.index.result.now.ok.0 in let q = c.len-open.ensures in let z = c.if-open-gt0.false in omega arith) in
    claim_next c.args.graph.now s c.args.worker c.args.job v g
    (read_list s.awaits.items c.args.job c.index.result.now l c.index.ensures ∙ nothing c.index.result.now.items none)
    (read s.claimed.items c.args.job c.index-2.result.now None m c.index-2.ensures ∙ c.in_default.is)

pub returns-clause-state : goal.returns-clause-state
returns-clause-state c = many_more c.args.graph.now c.args.self.now _ (Claim c.args.worker c.args.job) c.requires refl (length-set c.args.self.now.claimed.items c.args.job (Some c.args.worker)) refl (returns-clause-next c)
