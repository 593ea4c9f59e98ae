use Rattle.std.proofs.Common.{subst}
use Rattle.cell_graph.proofs.Bridge.{heights}
use Rattle.cell_graph.specs.Linked.{height_at, plain}
use Rattle.flat_layout.specs.Layout.{IsHeight}
use Rattle.net_phase.specs.Below.{BelowSeen, tables_seen}
use Rattle.net_walk.specs.Walk.{AreNearOwn}
use Rattle.view_drawing.proofs.Bounding.{near_own}
use Rattle.view_drawing.proofs.placed.PlacedCells.sound.Goals as goal

pub returns-clause-lower : goal.returns-clause-lower
returns-clause-lower c = subst (λ (v : BelowSeen). IsHeight (plain v.design) (height_at v.design)) c.self.view_is (heights c.self.inside.design.now c.self.invariant.sound)

pub returns-clause-own : goal.returns-clause-own
returns-clause-own c = subst (λ (v : BelowSeen). AreNearOwn (tables_seen v)) c.self.view_is (near_own c.self.inside c.self.invariant)
