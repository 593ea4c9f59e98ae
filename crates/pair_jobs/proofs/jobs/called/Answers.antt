use Rattle.std.proofs.Common.{◌≡◌, ℕ, List, map, sym, ◌∙◌, ap, subst, nat_eq}
use Rattle.net_model.specs.declared.netlist.CallRow.{CallRow}
use Rattle.std.proofs.lemmas.List.Filters.{dedup_is}
use Rattle.std.specs.List.{dedup}
use Rattle.job_graph.specs.Graph.{has}
use Rattle.net_model.specs.Rows.{plain_circuit}
use Rattle.pair_jobs.proofs.Called.{called_once, has_calls}
use Rattle.pair_jobs.proofs.jobs.called.Goals as goal
use Rattle.pair_jobs.specs.Jobs.{AreCalled}

pub returns : goal.returns
returns c =
    let circuit = c.args.circuit.now in
    let numbers = c.in_ok-called.called.items in
    let sorted = c.sort_unstable.new.self.items in
    let is : c.dedup.new.self.items ≡ dedup nat_eq sorted = dedup_is nat_eq sorted c.dedup.new.self.items c.dedup.ensures.filtered in
    subst (λ (l : List ℕ). AreCalled (plain_circuit circuit) l) (sym is)
    (called_once (plain_circuit circuit) numbers sorted (λ q. ap (has q) c.in_ok-called.ensures ∙ (ap (λ l. has q (map (λ (r : CallRow). r.circuit) l)) c.deref.ensures.value ∙ has_calls q circuit.calls.items))
    c.sort_unstable.ensures.permutation c.sort_unstable.ensures.sorted)
