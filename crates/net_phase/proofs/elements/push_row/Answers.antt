use Rattle.std.proofs.Common.{◌∙◌, List, map, ap}
use Rattle.net_phase.proofs.Arraying.{row_more}
use Rattle.net_phase.proofs.elements.push_row.Goals as goal
use Rattle.net_walk.proofs.Placing.{nothing_behind}
use Rattle.net_walk.specs.Walk.{place_of}
use Rattle.net_walk.specs.declared.cells.Element.{Element}

pub loop-column-init : goal.loop-column-init
loop-column-init c = nothing_behind (map place_of c.args.out.now.items)

pub loop-column-preserved : goal.loop-column-preserved
loop-column-preserved c = ap (λ (l : List Element). map place_of l) c.in_ok-push.ensures.items ∙ row_more c.args.place.now c.args.row c.loop-column.column c.args.out.now.items c.loop-column.out.items c.motion_at.result c.motion_at.ensures.exact c.loop-column.invariant
