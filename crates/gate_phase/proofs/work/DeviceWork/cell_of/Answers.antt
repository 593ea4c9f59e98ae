use Rattle.std.proofs.Common.{◌≡◌, ◌<◌, ◌∙◌, ℕ, List, ap, length, slice_index, subst, sym, arith}
use Rattle.cell_graph.specs.Linked.{Linked, plain}
use Rattle.deep_tables.specs.Entries.{upward_cell}
use Rattle.flat_layout.specs.Layout.{IsReached}
use Rattle.gate_phase.proofs.work.DeviceWork.cell_of.Goals as goal
use Rattle.gate_phase.specs.Work.{WorkOf}

pub returns-clause-cell : goal.returns-clause-cell
returns-clause-cell c =
    let order : c.order.result.now ≡ c.self.inside.wired.now.design.order = c.order.ensures ∙ ap (λ (x : Linked). x.order) c.design-design.ensures in
    ap (λ (o : List ℕ). slice_index o c.args.job) order ∙ ap (λ (z : WorkOf). upward_cell z.design c.args.job) c.self.view_is

pub returns-clause-reached : goal.returns-clause-reached
returns-clause-reached c =
    let d = c.self.inside.wired.now.design in
    let order : c.order.result.now ≡ d.order = c.order.ensures ∙ ap (λ (x : Linked). x.order) c.design-design.ensures in
    let graph = ap (λ (z : WorkOf). length z.graph) c.self.view_is in
    let job = c.requires in let jobs = c.self.invariant.graph.jobs in
    let reached = subst (λ (x : Linked). (n : ℕ) → n < length x.order → IsReached (plain x) (slice_index x.order n)) c.design-design.ensures c.sound.ensures.order.reached in
    subst (λ (z : WorkOf). IsReached (plain z.design) (slice_index c.order.result.now c.args.job)) c.self.view_is
    (subst (λ (o : List ℕ). IsReached (plain d) (slice_index o c.args.job)) (sym order) (reached c.args.job (omega (arith, graph, job, jobs))))
