use Rattle.std.proofs.Common.{◌≡◌, ◌+◌, [], ◌∷◌, ◌++◌, sym, subst, arith}
use Rattle.job_graph.specs.Graph.{AreAscending}
use Rattle.job_tests.proofs.Spans.{ascending_up, ascending_more}
use Rattle.job_tests.proofs.graphs.span.Goals as goal
use Rattle.job_tests.proofs.graphs.span.Goals.{then-low-i+then-i-high+in_ok-push, else-low-i}

pub loop-i-preserved : goal.loop-i-preserved
loop-i-preserved c = elim c.if-low-i.branch [
  | then-low-i+then-i-high+in_ok-push w ↦
      let a = w.list-is in let b = (w.in_ok-push.ensures {u = tt}).items in
      let e : c.if-low-i.list.items ≡ c.loop-i.list.items ++ c.loop-i.i ∷ [] = cc in
      subst (λ z. AreAscending 0 z (c.loop-i.i + 1)) (sym e) (ascending_more 0 c.loop-i.list.items c.loop-i.i (omega arith) c.loop-i.invariant)
  | else-low-i w ↦
      let a = w.list-is in let e : c.if-low-i.list.items ≡ c.loop-i.list.items = cc in
      subst (λ z. AreAscending 0 z (c.loop-i.i + 1)) (sym e) (ascending_up 0 c.loop-i.list.items c.loop-i.i (c.loop-i.i + 1) (omega arith) c.loop-i.invariant)
]
