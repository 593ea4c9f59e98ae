use Rattle.std.proofs.Common.{IfSome, IfNone, subst}
use Rattle.cell_graph.specs.Linked.{plain}
use Rattle.net_phase.specs.Below.{BelowSeen, tables_seen}
use Rattle.net_walk.specs.Walk.{HasNoSquare, IsHull}
use Rattle.view_drawing.proofs.Bounding.{hull_none, hull_some}
use Rattle.view_drawing.proofs.placed.PlacedCells.hull.Goals as goal

pub returns-clause-some : goal.returns-clause-some
returns-clause-some c =
    subst (λ (v : BelowSeen). IfSome c.bound_at.result (IsHull (plain v.design) (tables_seen v) c.args.cell)) c.self.view_is
    (hull_some c.self.inside c.self.invariant c.args.cell c.bound_at.result c.bound_at.ensures)

pub returns-clause-none : goal.returns-clause-none
returns-clause-none c =
    subst (λ (v : BelowSeen). IfNone c.bound_at.result (HasNoSquare (plain v.design) (tables_seen v) c.args.cell)) c.self.view_is
    (hull_none c.self.inside c.self.invariant c.args.cell c.bound_at.result c.bound_at.ensures)
