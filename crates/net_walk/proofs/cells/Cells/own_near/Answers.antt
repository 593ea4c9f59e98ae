use Rattle.std.proofs.Common.{List, subst}
use Rattle.geo_base.specs.declared.shapes.Rect.{Rect}
use Rattle.net_walk.proofs.Numbering.{all_own}
use Rattle.net_walk.proofs.cells.Cells.own_near.Goals as goal
use Rattle.net_walk.specs.Windows.{AreOwnNear}

pub returns : goal.returns
returns g c =
    subst (λ (l : List Rect). AreOwnNear l c.args.window.now c.in_ok-all.all.items) c.own.ensures.all (all_own c.own.result.now c.args.window.now c.in_ok-all.all.items c.in_ok-all.ensures)
