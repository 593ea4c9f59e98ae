use Rattle.std.proofs.Common.{◌≡◌, ◌<◌, ◌+◌, ℕ, List, [], ◌∷◌, ◌++◌, length, take, replicate, None, false, sym, ap, ◌∙◌, arith, take_all}
use Rattle.std.specs.Global.{Vec}
use Rattle.std.proofs.lemmas.Grind.{common_steps}
use Rattle.std.proofs.lemmas.List.{map-append, take_more}
use Rattle.job_graph.specs.Graph.{lists, inputs_of}
use Rattle.job_graph.specs.declared.machine.JobState.{JobState}
use Rattle.job_graph.specs.Machine.{IsStateOf, machine_of, start as started}
use Rattle.job_graph.proofs.States.{begins}
use Rattle.job_graph.proofs.machine.JobState.start.Goals as goal

one_more : (graph : List (List ℕ)) (us vs : List (Vec ℕ)) (v : Vec ℕ) (job : ℕ) → job < length graph → lists us ≡ take job graph → v.items ≡ inputs_of graph job → vs ≡ us ++ v ∷ [] → lists vs ≡ take (job + 1) graph
one_more graph us vs v job l e f g = ap lists g ∙ map-append (λ (x : Vec ℕ). x.items) us (v ∷ []) ∙ ap (λ zs. zs ++ v.items ∷ []) e ∙ ap (λ z. take job graph ++ z ∷ []) f ∙ sym (take_more graph job [] l)

pub loop-job-preserved : goal.loop-job-preserved
loop-job-preserved c =
    let v = c.loop-job.invariant in let l : c.loop-job.job < length c.args.graph.now = (let e = c.jobs-job-end.ensures.count in let f = c.loop-job-test.true in omega arith) in
    record {
      awaits = one_more c.args.graph.now c.loop-job.awaits.items c.push.new.self.items c.in_ok-to_vec.field-0 c.loop-job.job l v.awaits (c.in_ok-to_vec.ensures.items_if_clones_equal (λ x y e. e) ∙ c.inputs.ensures) (c.in_ok-push.ensures {u = tt}).items;
      claimed = grind (arith, common_steps);
      published = grind (arith, common_steps);
    }

all_started : (graph : List (List ℕ)) (s : JobState) (n : ℕ) → n ≡ length graph → lists s.awaits.items ≡ take n graph → s.claimed.items ≡ replicate n None → s.published.items ≡ replicate n false → IsStateOf graph s × (machine_of s ≡ started graph)
all_started graph s n e a c p = begins graph s n (a ∙ take_all n graph (omega arith)) c p e

pub returns-clause-state : goal.returns-clause-state
returns-clause-state c = let v = c.loop-job.invariant in let s : JobState = record { awaits = c.loop-job.awaits; claimed = c.loop-job.claimed; published = c.loop-job.published } in (all_started c.args.graph.now s c.loop-job.job (let e = c.jobs-job-end.ensures.count in let f = c.loop-job-test.false in let g = c.loop-job.auto.job-end in omega arith) v.awaits v.claimed v.published).0

pub returns-clause-start : goal.returns-clause-start
returns-clause-start c = let v = c.loop-job.invariant in let s : JobState = record { awaits = c.loop-job.awaits; claimed = c.loop-job.claimed; published = c.loop-job.published } in (all_started c.args.graph.now s c.loop-job.job (let e = c.jobs-job-end.ensures.count in let f = c.loop-job-test.false in let g = c.loop-job.auto.job-end in omega arith) v.awaits v.claimed v.published).1
