use Rattle.tile_index.proofs.Positions.{stops_sorted}
use Rattle.tile_index.proofs.entries.stops_along.Goals as goal

pub returns : goal.returns
returns c = stops_sorted c.args.rects.now c.in_ok-stops.stops.items c.sort_stops.new.stops.items (c.in_ok-stops.ensures {u = tt}) c.sort_stops.ensures
