use Rattle.std.proofs.Common.{◌≡◌, ℕ, List, map, Some, Option, Result, Ok, Err, IfOk}
use Rattle.std.specs.Global.{Vec}
use Rattle.job_graph.specs.Table.{AreDefined}
use Rattle.job_graph.specs.Sharing.{AreFound}
use Rattle.job_graph.proofs.Finding.{found_defined}
use Rattle.job_graph.proofs.run.level_values.Goals as goal

values_ok : {K T E : Type 0} (is_defined : K → ℕ → T → Type 0) (key : K) (graph : List (List ℕ)) (found : List (Option T)) (r : Result (Vec T) E) → IfOk r (λ v. found ≡ map (λ x. Some x) v.items) → AreFound is_defined key graph found → IfOk r (λ v. AreDefined is_defined key graph v.items)
values_ok is_defined key graph found (Ok v) e a = found_defined is_defined key graph found v.items e a
values_ok is_defined key graph found (Err e) h a = tt

pub returns : goal.returns
returns g c = values_ok g.P.Out.Defined.is_defined (g.P.Phase.key c.args.phase.now) (g.P.Phase.graph c.args.phase.now) c.in_ok-found.found c.into_values.result c.into_values.ensures (c.in_ok-found.ensures {u = tt}).right
