use Rattle.std.proofs.Common.{◌≡◌, ◌<◌, ◌≤◌, ◌-◌, ℕ, suc, List, length, get_or, take, ap, ◌∙◌, arith}
use Rattle.job_graph.specs.Graph.{AreInputs, inputs_of}
use Rattle.job_graph.specs.Machine.{Machine, machine_of, answer, next}
use Rattle.job_graph.specs.Book.{MayClaim}
use Rattle.job_graph.specs.declared.machine.Event.TheVariants.{Arrive}
use Rattle.job_graph.specs.declared.machine.Step.TheVariants.{Done}
use Rattle.job_graph.proofs.Booking.{arriving, edge_arrives}
use Rattle.job_graph.proofs.book.arrive_all.Goals as goal

-- one more edge arrives
step_back : (g : List (List ℕ)) (m now : Machine) (job left : ℕ) (inputs : List ℕ) → AreInputs g → MayClaim g m job → inputs ≡ inputs_of g job → left ≤ length inputs → 0 < left
    → now ≡ arriving m job (take left inputs)
    → (answer g now (Arrive (get_or inputs (left - 1) 0) job) ≡ Done) × (next g now (Arrive (get_or inputs (left - 1) 0) job) ≡ arriving m job (take (left - 1) inputs))
step_back g m now job left inputs a may e le more is =
    let k = left - 1 in let up : left ≡ suc k = omega arith in
    let s = edge_arrives g m job k inputs a may e (omega arith) in
    let same : now ≡ arriving m job (take (suc k) inputs) = is ∙ ap (λ n. arriving m job (take n inputs)) up in
    (ap (λ (x : Machine). answer g x (Arrive (get_or inputs k 0) job)) same ∙ s.0, ap (λ (x : Machine). next g x (Arrive (get_or inputs k 0) job)) same ∙ s.1)

pub unreachable-requires : goal.unreachable-requires
unreachable-requires c =
    let v = c.loop-left.invariant in
    let s = step_back c.args.graph.now (machine_of c.args.book.now) (machine_of c.loop-left.book) c.args.job c.loop-left.left c.inputs-inputs.result.now c.requires.graph c.requires.job c.inputs-inputs.ensures v.left c.loop-left-test.true v.arrived in
    c.in_default.not-Done (c.step.ensures.answer ∙ s.0)

pub loop-left-preserved : goal.loop-left-preserved
loop-left-preserved c =
    let v = c.loop-left.invariant in
    let s = step_back c.args.graph.now (machine_of c.args.book.now) (machine_of c.loop-left.book) c.args.job c.loop-left.left c.inputs-inputs.result.now c.requires.graph c.requires.job c.inputs-inputs.ensures v.left c.loop-left-test.true v.arrived in
    record { left = (let l = v.left in omega arith); state = c.step.ensures.state; arrived = c.step.ensures.next ∙ s.1 }
