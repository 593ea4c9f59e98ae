use Rattle.std.proofs.Common.{◌≡◌, [], ◌∷◌, ◌++◌, Some, ap, ◌∙◌}
use Rattle.job_graph.proofs.Finding.{one_more, tail_found}
use Rattle.job_graph.proofs.found.Found.into_values.Goals as goal

pub loop-value-preserved : goal.loop-value-preserved
loop-value-preserved g c =
    let v = c.loop-value.invariant in let x = c.in-Some-value.value in
    let s : c.loop-value.value-iterator.rest.items ≡ Some x ∷ c.next.new.self.rest.items = (c.in-Some.ensures {u = tt}).steps.0 ∙ ap (λ o. o ∷ c.next.new.self.rest.items) c.in-Some-value.is in
    let pushed : c.push.new.self.items ≡ c.loop-value.values.items ++ x ∷ [] = (c.in_ok-push.ensures {u = tt}).items in
    record {
      same = one_more c.args.self c.loop-value.values.items c.push.new.self.items x c.loop-value.value-iterator.rest.items c.next.new.self.rest.items v.same s pushed;
      left = tail_found c.loop-value.value-iterator.rest.items c.next.new.self.rest.items x s v.left;
    }
