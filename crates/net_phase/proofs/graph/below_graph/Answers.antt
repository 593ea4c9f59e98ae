use Rattle.std.proofs.Common.{◌≡◌, ◌+◌, ℕ, List, length, ap, sym, subst, arith}
use Rattle.std.proofs.lemmas.List.{map_push}
use Rattle.std.specs.Global.{Vec}
use Rattle.job_graph.specs.Graph.{lists}
use Rattle.deep_tables.proofs.Placing.{order_numbers}
use Rattle.deep_tables.specs.Positions.{AreApartBelow}
use Rattle.net_phase.proofs.Graphing.{graph_below, inputs_by, inputs_more}
use Rattle.net_phase.proofs.Results.{if_ok}
use Rattle.net_phase.proofs.graph.below_graph.Goals as goal
use Rattle.net_phase.specs.Graph.{AreBelowJobs, AreInputsTo, AreMarks}

pub positions-requires-clause-numbers : goal.positions-requires-clause-numbers
positions-requires-clause-numbers c =
    let d = c.args.design.now in
    subst (λ n. AreApartBelow n c.order-order.result.now) (sym c.cells.ensures) (subst (λ (l : List ℕ). AreApartBelow (length d.cells) l) (sym c.order-order.ensures) (order_numbers d c.sound.ensures.order))

pub loop-job-preserved : goal.loop-job-preserved
loop-job-preserved c =
    let d = c.args.design.now in
    let job = c.loop-job.job in
    let old = c.loop-job.graph.items in
    let inputs = c.in_ok-inputs.inputs in
    let marks : AreMarks d job c.deref-in-loop-job-2.result.now = subst (AreMarks d job) (sym c.deref-in-loop-job-2.ensures.value) c.in_ok-marks.ensures in
    let more = inputs_more d job (lists old) inputs.items c.loop-job.invariant (inputs_by d job c.deref-in-loop-job-2.result.now inputs.items marks c.in_ok-inputs.ensures.ascend c.in_ok-inputs.ensures.all) in
    rw c.in_ok-push.ensures.items (subst (λ (l : List (List ℕ)). AreInputsTo d (job + 1) l) (sym (map_push (λ (v : Vec ℕ). v.items) old inputs)) more)

pub returns : goal.returns
returns c =
    let d = c.args.design.now in
    let e = ap (λ (l : List ℕ). length l) c.order-order.ensures in
    let end : c.loop-job.job ≡ length d.order = (let a = c.loop-job-test.false in let b = c.loop-job.auto.job-end in omega (arith, a, b, e)) in
    if_ok _ _ c.from_inputs.result (λ g same. subst (AreBelowJobs d) (sym same) (graph_below d c.loop-job.job (lists c.loop-job.graph.items) end c.loop-job.invariant)) c.from_inputs.ensures.ok
