use Rattle.std.proofs.Common.{refl, subst}
use Rattle.cell_graph.proofs.Bridge.{heights}
use Rattle.cell_graph.specs.Linked.{height_at, plain}
use Rattle.flat_layout.specs.Layout.{IsHeight}
use Rattle.net_phase.proofs.Holding.{near_own}
use Rattle.net_phase.proofs.below.BelowCells.sound.Goals as goal
use Rattle.net_phase.specs.Below.{BelowSeen, below_seen, tables_seen}
use Rattle.net_phase.specs.Own.{rect_lists}
use Rattle.net_walk.specs.Walk.{AreNearOwn}

pub returns-clause-lower : goal.returns-clause-lower
returns-clause-lower c = subst (λ (v : BelowSeen). IsHeight (plain v.design) (height_at v.design)) c.self.view_is (heights c.self.inside.design.now c.self.invariant.sound)

pub returns-clause-own : goal.returns-clause-own
returns-clause-own c =
    let a = c.self.inside in
    subst (λ (v : BelowSeen). AreNearOwn (tables_seen v)) c.self.view_is
    (near_own a.indexes.now.reach c.self.invariant.indexes.reach.most a.design.now (tables_seen (below_seen a)) (rect_lists a.own.now) c.self.invariant.sound c.self.invariant.own (λ cell k. refl))
