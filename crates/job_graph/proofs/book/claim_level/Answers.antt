use Rattle.std.proofs.Common.{get_or, take, sym, ap, ◌∙◌, subst}
use Rattle.std.proofs.lemmas.List.{take_more}
use Rattle.job_graph.specs.Machine.{Machine, machine_of}
use Rattle.job_graph.specs.Book.{MayClaim, arrived, with_claimed}
use Rattle.job_graph.proofs.Booking.{apart_next, still_free, job_claimed}
use Rattle.job_graph.proofs.book.claim_level.Goals as goal

pub arrive_all-requires-clause-job : goal.arrive_all-requires-clause-job
arrive_all-requires-clause-job c =
    let g = c.args.graph.now in let m = machine_of c.args.book.now in let k = c.loop-job.job-index in
    let n = apart_next (MayClaim g m) c.args.level.now k c.requires.level c.loop-job-test.true in
    subst (λ (x : Machine). MayClaim g x (get_or c.args.level.now k 0)) (sym c.loop-job.invariant.claimed) (still_free g m (take k c.args.level.now) (get_or c.args.level.now k 0) n.0 n.1)

pub unreachable-requires : goal.unreachable-requires
unreachable-requires c =
    let g = c.args.graph.now in let m = machine_of c.args.book.now in let k = c.loop-job.job-index in let job = get_or c.args.level.now k 0 in
    let n = apart_next (MayClaim g m) c.args.level.now k c.requires.level c.loop-job-test.true in
    let s = job_claimed g m (machine_of c.arrive_all.new.book) (take k c.args.level.now) job (c.arrive_all.ensures.arrived ∙ ap (λ (x : Machine). arrived x job) c.loop-job.invariant.claimed) n.0 n.1 in
    c.in_default.not-Done (c.step.ensures.answer ∙ s.0)

pub loop-job-preserved : goal.loop-job-preserved
loop-job-preserved c =
    let g = c.args.graph.now in let m = machine_of c.args.book.now in let k = c.loop-job.job-index in let job = get_or c.args.level.now k 0 in
    let n = apart_next (MayClaim g m) c.args.level.now k c.requires.level c.loop-job-test.true in
    let s = job_claimed g m (machine_of c.arrive_all.new.book) (take k c.args.level.now) job (c.arrive_all.ensures.arrived ∙ ap (λ (x : Machine). arrived x job) c.loop-job.invariant.claimed) n.0 n.1 in
    record { state = c.step.ensures.state; claimed = c.step.ensures.next ∙ s.1 ∙ ap (with_claimed m) (sym (take_more c.args.level.now k 0 c.loop-job-test.true)) }
