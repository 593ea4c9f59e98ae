use Rattle.std.proofs.Common.{IfSome, IfNone, refl, subst}
use Rattle.cell_graph.specs.Linked.{plain}
use Rattle.net_phase.proofs.Holding.{hull_none, hull_some}
use Rattle.net_phase.proofs.below.BelowCells.hull.Goals as goal
use Rattle.net_phase.specs.Below.{BelowSeen, below_seen, tables_seen}
use Rattle.net_phase.specs.Own.{rect_lists}
use Rattle.net_walk.specs.Walk.{HasNoSquare, IsHull}

pub returns-clause-some : goal.returns-clause-some
returns-clause-some c =
    let a = c.self.inside in
    subst (λ (v : BelowSeen). IfSome c.bound_at.result (IsHull (plain v.design) (tables_seen v) c.args.cell)) c.self.view_is
    (hull_some a.indexes.now.reach c.self.invariant.indexes.reach.most a.design.now (tables_seen (below_seen a)) (rect_lists a.own.now) c.self.invariant.sound c.self.invariant.own (λ cell k. refl) c.args.cell c.bound_at.result c.bound_at.ensures)

pub returns-clause-none : goal.returns-clause-none
returns-clause-none c =
    let a = c.self.inside in
    subst (λ (v : BelowSeen). IfNone c.bound_at.result (HasNoSquare (plain v.design) (tables_seen v) c.args.cell)) c.self.view_is
    (hull_none a.indexes.now.reach c.self.invariant.indexes.reach.most a.design.now (tables_seen (below_seen a)) (rect_lists a.own.now) c.self.invariant.sound c.self.invariant.own (λ cell k. refl) c.args.cell c.bound_at.result c.bound_at.ensures)
