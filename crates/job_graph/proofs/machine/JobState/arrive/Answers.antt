use Rattle.std.proofs.Common.{◌≡◌, ◌<◌, length, false, refl, sym, ap, ◌∙◌, subst, arith, length-set}
use Rattle.job_graph.specs.Graph.{AreAscending, has}
use Rattle.job_graph.specs.Machine.{machine_of, less}
use Rattle.job_graph.specs.declared.machine.Event.TheVariants.{Arrive}
use Rattle.job_graph.proofs.Taken.{less_none}
use Rattle.job_graph.proofs.Once.{in_order}
use Rattle.job_graph.proofs.States.{read, read_list, many_more, arrive_next, unmoved}
use Rattle.job_graph.proofs.machine.JobState.arrive.Goals as goal

pub take_out-requires : goal.take_out-requires
take_out-requires c =
    let s = c.args.self.now in let v = c.requires in
    let k : c.args.to < length s.awaits.items = (let e = c.jobs-jobs.ensures.count in let f = v.awaits in let b = c.if-to-jobs.false in omega arith) in
    let q = in_order c.args.graph.now (machine_of s) c.jobs-jobs.ensures.sound v.reached c.args.to in
    (q.0, subst (λ l. AreAscending 0 l q.0) (read_list s.awaits.items c.args.to c.index_mut.result.now k c.index_mut.ensures.value) q.2)

pub returns-then-take_out-clause-next : goal.returns-then-take_out-clause-next
returns-then-take_out-clause-next c =
    let s = c.args.self.now in let v = c.requires in
    let g : c.args.to < length c.args.graph.now = (let e = c.jobs-jobs.ensures.count in let b = c.if-to-jobs.false in omega arith) in
    let k : c.args.to < length s.awaits.items = (let f = v.awaits in omega arith) in
    let i : c.args.from < length s.published.items = (let e = c.jobs-jobs.ensures.count in let f = v.published in let b = c.if-from-jobs.false in omega arith) in
    let r = read_list s.awaits.items c.args.to c.index_mut.result.now k c.index_mut.ensures.value in
    arrive_next c.args.graph.now s c.args.from c.args.to c.take_out.new.list v g
    (read s.published.items c.args.from c.index.result.now false i c.index.ensures ∙ c.if-not-index.false)
    (ap (has c.args.from) r ∙ sym c.take_out.ensures.found ∙ c.if-take_out.true)
    (c.take_out.ensures.rest ∙ ap (less c.args.from) (sym r))

pub returns-then-take_out-clause-state : goal.returns-then-take_out-clause-state
returns-then-take_out-clause-state c = many_more c.args.graph.now c.args.self.now _ (Arrive c.args.from c.args.to) c.requires (length-set c.args.self.now.awaits.items c.args.to c.take_out.new.list) refl refl (returns-then-take_out-clause-next c)

pub returns-else-take_out-clause-next : goal.returns-else-take_out-clause-next
returns-else-take_out-clause-next c =
    let s = c.args.self.now in
    let k : c.args.to < length s.awaits.items = (let e = c.jobs-jobs.ensures.count in let f = c.requires.awaits in let b = c.if-to-jobs.false in omega arith) in
    let r = read_list s.awaits.items c.args.to c.index_mut.result.now k c.index_mut.ensures.value in
    let none : has c.args.from c.index_mut.result.now.items ≡ false = sym c.take_out.ensures.found ∙ c.if-take_out.false in
    unmoved c.args.graph.now s c.args.from c.args.to c.take_out.new.list k (ap (has c.args.from) r ∙ none) (c.take_out.ensures.rest ∙ less_none c.args.from c.index_mut.result.now.items none ∙ sym r)

pub returns-else-take_out-clause-state : goal.returns-else-take_out-clause-state
returns-else-take_out-clause-state c = many_more c.args.graph.now c.args.self.now _ (Arrive c.args.from c.args.to) c.requires (length-set c.args.self.now.awaits.items c.args.to c.take_out.new.list) refl refl (returns-else-take_out-clause-next c)
