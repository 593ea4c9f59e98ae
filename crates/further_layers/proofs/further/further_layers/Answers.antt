use Rattle.std.proofs.Common.{◌+◌, subst, sym}
use Rattle.further_layers.specs.Further.{AreCellLayers, lists_of}
use Rattle.further_layers.proofs.Building.{cell_more}
use Rattle.further_layers.proofs.further.further_layers.Goals as goal

pub loop-cell-preserved : goal.loop-cell-preserved
loop-cell-preserved c =
    let keys = c.args.keys.now in let lists = lists_of c.args.sets.now in let cell = c.loop-cell.cell in
    subst (AreCellLayers keys lists (cell + 1)) (sym c.in_ok-push.ensures.items) (cell_more keys lists cell c.in_ok-layers.layers c.loop-cell.further.items c.in_ok-layers.ensures c.loop-cell.invariant)
