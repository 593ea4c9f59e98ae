use Rattle.std.proofs.Common.{◌≡◌, ℕ, List, map, Some, Option, Result, Ok, Err, IfOk}
use Rattle.job_graph.specs.Table.{AreDefined}
use Rattle.job_graph.specs.Sharing.{AreFound}
use Rattle.job_graph.proofs.Finding.{found_defined}
use Rattle.job_graph.proofs.run.run_levels.Goals as goal

results_ok : {K T E : Type 0} (is_defined : K → ℕ → T → Type 0) (key : K) (graph : List (List ℕ)) (found : List (Option T)) (r : Result (List T) E) → IfOk r (λ v. found ≡ map (λ x. Some x) v) → AreFound is_defined key graph found → IfOk r (AreDefined is_defined key graph)
results_ok is_defined key graph found (Ok v) e a = found_defined is_defined key graph found v e a
results_ok is_defined key graph found (Err e) h a = tt

pub returns : goal.returns
returns g c = results_ok g.P.Out.Defined.is_defined (g.P.Phase.key c.args.phase.now) (g.P.Phase.graph c.args.phase.now) c.in_ok-found.found c.into_results.result c.into_results.ensures (c.in_ok-found.ensures {u = tt}).right
