use Rattle.std.proofs.Common.{◌≡◌, ◌<◌, ◌∙◌, ℕ, List, Option, IsSomeAnd, true, ap, sym, subst, length, slice_index}
use Rattle.std.specs.Borrow.{Bor}
use Rattle.cell_graph.specs.Linked.{IsSound, Linked, plain}
use Rattle.deep_tables.specs.Entries.{upward_cell}
use Rattle.deep_tables.specs.Nets.{AreCellNets}
use Rattle.deep_tables.specs.declared.nets.CellNets.{CellNets}
use Rattle.flat_layout.specs.Nets.{AreRightBelow}
use Rattle.job_graph.specs.Graph.{Waits, has}
use Rattle.net_phase.proofs.Results.{if_ok}
use Rattle.net_phase.proofs.Righting.{below_right, cell_right, job_right, nets_seen, tables_by}
use Rattle.net_phase.proofs.phase.NetPhasePhase.work.Goals as goal
use Rattle.net_phase.specs.Below.{BelowSeen, wiring_seen}
use Rattle.net_phase.specs.Phase.{NetJobs}
use Rattle.net_phase.specs.Reading.{AreRead, nets_of}
use Rattle.net_phase.specs.Wired.{with_nets}
use Rattle.net_phase.specs.Wires.{AreWires}
use Rattle.rule_layers.specs.Meaning.{wiring_of}
use Rattle.rule_text.specs.Seen.{rules_seen}

pub cell_nets-requires-clause-right : goal.cell_nets-requires-clause-right
cell_nets-requires-clause-right g c =
    let w = c.self.inside.wired.now in
    let d = w.design in
    let r = rules_seen w.rules in
    let job = c.args.job in
    let nets = nets_of c.in_ok-nets.nets.items in
    let order = c.order-order.result.now in
    let sound = subst (λ (x : Linked). IsSound x) c.design-design.ensures c.sound-2.ensures in
    let order_is : order ≡ d.order = c.order-order.ensures ∙ ap (λ (x : Linked). x.order) c.design-design.ensures in
    let lt : job < length d.order = subst (λ n. job < n) (ap (λ (z : NetJobs). length z.graph) (sym c.self.view_is) ∙ c.self.invariant.jobs) c.requires.job in
    let read : AreRead d r c.inputs.result.now order nets = c.in_ok-nets.ensures d r (λ i h.
    subst (λ (o : List ℕ). IsSomeAnd (g.V.Reads.value c.args.reads.now i) (AreCellNets (plain d) r (slice_index o i))) (sym order_is)
    (subst (λ (z : NetJobs). IsSomeAnd (g.V.Reads.value c.args.reads.now i) (AreCellNets (plain z.design) (rules_seen z.rules) (upward_cell z.design i))) (sym c.self.view_is)
    (c.requires.right i (subst (λ (z : NetJobs). Waits z.graph job i) c.self.view_is (subst (λ l. has i l ≡ true) c.inputs.ensures h))))) in
    let right = job_right d w.rules c.self.inside.graph w.own nets job c.inputs.result.now order sound c.self.invariant lt c.sound.ensures.own c.inputs.ensures order_is read in
    let same = c.below.ensures ∙ ap (λ (l : List (Option (Bor CellNets))). with_nets w (nets_of l)) c.deref.ensures.value in
    below_right c.below.result d w.rules w.own nets (slice_index order job) same right

pub cell_nets-requires-clause-wires : goal.cell_nets-requires-clause-wires
cell_nets-requires-clause-wires g c = subst (λ (z : BelowSeen). AreWires (wiring_seen z) c.wires.result.now) (sym c.below.ensures) c.wires.ensures

pub returns : goal.returns
returns g c =
    let w = c.self.inside.wired.now in
    let d = w.design in
    let r = rules_seen w.rules in
    let job = c.args.job in
    let nets = nets_of c.in_ok-nets.nets.items in
    let order = c.order-order.result.now in
    let sound = subst (λ (x : Linked). IsSound x) c.design-design.ensures c.sound-2.ensures in
    let order_is : order ≡ d.order = c.order-order.ensures ∙ ap (λ (x : Linked). x.order) c.design-design.ensures in
    let lt : job < length d.order = subst (λ n. job < n) (ap (λ (z : NetJobs). length z.graph) (sym c.self.view_is) ∙ c.self.invariant.jobs) c.requires.job in
    let read : AreRead d r c.inputs.result.now order nets = c.in_ok-nets.ensures d r (λ i h.
    subst (λ (o : List ℕ). IsSomeAnd (g.V.Reads.value c.args.reads.now i) (AreCellNets (plain d) r (slice_index o i))) (sym order_is)
    (subst (λ (z : NetJobs). IsSomeAnd (g.V.Reads.value c.args.reads.now i) (AreCellNets (plain z.design) (rules_seen z.rules) (upward_cell z.design i))) (sym c.self.view_is)
    (c.requires.right i (subst (λ (z : NetJobs). Waits z.graph job i) c.self.view_is (subst (λ l. has i l ≡ true) c.inputs.ensures h))))) in
    let right : AreRightBelow (plain d) (wiring_of r) (tables_by w.own nets) (slice_index order job) = job_right d w.rules c.self.inside.graph w.own nets job c.inputs.result.now order sound c.self.invariant lt c.sound.ensures.own c.inputs.ensures order_is read in
    let same = c.below.ensures ∙ ap (λ (l : List (Option (Bor CellNets))). with_nets w (nets_of l)) c.deref.ensures.value in
    if_ok _ _ c.cell_nets.result (λ v made.
    subst (λ (z : NetJobs). AreCellNets (plain z.design) (rules_seen z.rules) (upward_cell z.design job) v) c.self.view_is
    (subst (λ (o : List ℕ). AreCellNets (plain d) r (slice_index o job) v) order_is
    (cell_right d r w.own nets (slice_index order job) v sound right (nets_seen c.below.result d w.rules w.own nets (slice_index order job) v same made)))) c.cell_nets.ensures
