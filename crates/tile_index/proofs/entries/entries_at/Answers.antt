use Rattle.std.proofs.Common.{pos, refl, get_or}
use Rattle.std.proofs.lemmas.Option.{slice_get-get_or}
use Rattle.geo_base.specs.declared.shapes.Rect.{Rect}
use Rattle.tile_index.specs.declared.entries.Entry.{Entry}
use Rattle.tile_index.specs.declared.entries.Stop.{Stop}
use Rattle.tile_index.proofs.Positions.{stop_within, placed_more, placed_all}
use Rattle.tile_index.proofs.entries.entries_at.Goals as goal

abbrev zero_stop : Stop
zero_stop = record { place = 0; position = 0 }

abbrev zero_rect : Rect
zero_rect = record { x1 = pos 0; y1 = pos 0; x2 = pos 0; y2 = pos 0 }

pub bounds-rects-position : goal.bounds-rects-position
bounds-rects-position c = stop_within c.args.rects.now c.args.stops.now c.loop-stop.stop-index zero_stop c.requires c.loop-stop-test.true

pub loop-stop-preserved : goal.loop-stop-preserved
loop-stop-preserved c =
    let rects = c.args.rects.now in
    let stops = c.args.stops.now in
    let i = c.loop-stop.stop-index in
    let k = (get_or stops i zero_stop).position in
    let e : Entry = record { rect = get_or rects k zero_rect; position = k } in
    let within = stop_within rects stops i zero_stop c.requires c.loop-stop-test.true in
    rw (c.in_ok-push.ensures {u = tt}).items
    (placed_more rects stops i zero_stop c.loop-stop.entries.items e c.loop-stop-test.true (slice_get-get_or rects k zero_rect within) refl c.loop-stop.invariant)

pub returns : goal.returns
returns c = placed_all c.args.rects.now c.args.stops.now c.loop-stop.stop-index c.loop-stop.entries.items c.requires c.loop-stop-test.false c.loop-stop.invariant
