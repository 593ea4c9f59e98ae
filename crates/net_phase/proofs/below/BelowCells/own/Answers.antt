use Rattle.std.proofs.Common.{refl, sym, subst}
use Rattle.net_phase.proofs.Holding.{own_area}
use Rattle.net_phase.proofs.below.BelowCells.own.Goals as goal
use Rattle.net_phase.specs.Below.{below_seen, tables_seen}
use Rattle.net_phase.specs.Own.{rect_lists}
use Rattle.net_walk.specs.Walk.{HaveArea}

pub returns-clause-filled : goal.returns-clause-filled
returns-clause-filled c =
    let a = c.self.inside in
    subst HaveArea (sym c.rects_at.ensures)
    (own_area a.indexes.now.reach c.self.invariant.indexes.reach.most a.design.now (tables_seen (below_seen a)) (rect_lists a.own.now) c.self.invariant.sound c.self.invariant.own (λ cell k. refl) c.args.cell c.args.conductor)
