use Rattle.std.proofs.Common.{◌≡◌, ◌∙◌, List, ap, sym, subst, arith, length}
use Rattle.job_graph.specs.Graph.{lists}
use Rattle.deep_tables.specs.Entries.{downward_cell}
use Rattle.zone_phase.specs.declared.uses.Use.{Use}
use Rattle.zone_phase.specs.Graph.{AreInputsTo, AreJobsOf, AreParentJobs}
use Rattle.zone_phase.specs.Uses.{AreRising, lists_of, uses_of}
use Rattle.zone_phase.proofs.Graphing.{inputs_more, lists_push, lower_inputs, parent_jobs}
use Rattle.zone_phase.proofs.Putting.{listed}
use Rattle.zone_phase.proofs.Results.{if_ok}
use Rattle.zone_phase.proofs.parents.parent_graph.Goals as goal

pub jobs_of-requires : goal.jobs_of-requires
jobs_of-requires c =
    let same = listed c.args.design.now c.args.uses.now c.order-order.result.now c.loop-job.job c.index-uses-cell.result c.deref.result.now c.sound.ensures c.requires.count c.order-order.ensures c.loop-job-test.true c.index-uses-cell.is c.deref.ensures.value in
    subst AreRising (sym same) (c.requires.rising (downward_cell c.args.design.now c.loop-job.job))

pub loop-job-preserved : goal.loop-job-preserved
loop-job-preserved c =
    let d = c.args.design.now in let jobs = c.in_ok-jobs.jobs in let inputs = c.loop-job.inputs.items in
    let same = listed d c.args.uses.now c.order-order.result.now c.loop-job.job c.index-uses-cell.result c.deref.result.now c.sound.ensures c.requires.count c.order-order.ensures c.loop-job-test.true c.index-uses-cell.is c.deref.ensures.value in
    inputs_more d (uses_of (lists_of c.args.uses.now)) c.loop-job.job (lists inputs) jobs.items (lists c.push.new.self.items) (ap lists (c.in_ok-push.ensures {u = tt}).items ∙ lists_push inputs jobs)
    c.loop-job.invariant (subst (λ (l : List Use). AreJobsOf l (length l) jobs.items) same c.in_ok-jobs.ensures)

pub from_inputs-requires : goal.from_inputs-requires
from_inputs-requires c =
    let d = c.args.design.now in let l = lists_of c.args.uses.now in
    let end : c.loop-job.job ≡ length d.order = (let a = c.loop-job-test.false in let b = c.loop-job.auto.job-end in let e = ap length c.order-order.ensures in omega arith) in
    lower_inputs d l (lists c.loop-job.inputs.items) c.sound.ensures c.requires (subst (λ n. AreInputsTo d (uses_of l) n (lists c.loop-job.inputs.items)) end c.loop-job.invariant)

pub returns : goal.returns
returns c =
    let d = c.args.design.now in let l = lists_of c.args.uses.now in
    let end : c.loop-job.job ≡ length d.order = (let a = c.loop-job-test.false in let b = c.loop-job.auto.job-end in let e = ap length c.order-order.ensures in omega arith) in
    if_ok _ _ c.from_inputs.result
    (λ g e. subst (AreParentJobs d) (sym e) (parent_jobs d l (lists c.loop-job.inputs.items) c.requires (subst (λ n. AreInputsTo d (uses_of l) n (lists c.loop-job.inputs.items)) end c.loop-job.invariant)))
    c.from_inputs.ensures.ok
