use Rattle.std.proofs.Common.{map}
use Rattle.net_phase.proofs.Arraying.{array_more}
use Rattle.net_phase.proofs.elements.push_array.Goals as goal
use Rattle.net_walk.proofs.Placing.{nothing_behind}
use Rattle.net_walk.specs.Walk.{place_of}

pub loop-row-init : goal.loop-row-init
loop-row-init c = nothing_behind (map place_of c.args.out.now.items)

pub loop-row-preserved : goal.loop-row-preserved
loop-row-preserved c = array_more c.args.place.now c.loop-row.row (map place_of c.args.out.now.items) (map place_of c.loop-row.out.items) (map place_of c.push_row.new.out.items) c.loop-row.invariant c.in_ok-push_row.ensures
