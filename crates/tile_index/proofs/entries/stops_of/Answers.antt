use Rattle.tile_index.specs.declared.entries.Stop.{Stop}
use Rattle.tile_index.proofs.Positions.{stop_more}
use Rattle.tile_index.proofs.entries.stops_of.Goals as goal

pub loop-i-preserved : goal.loop-i-preserved
loop-i-preserved c =
    let stop : Stop = record { place = c.place_on_curve-place.result; position = c.in_ok-position.position } in
    rw (c.in_ok-push.ensures {u = tt}).items
    (stop_more c.loop-i.stops.items c.loop-i.i stop (c.in_ok-position.ensures {u = tt}).position c.loop-i.invariant)
