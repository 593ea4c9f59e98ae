use Rattle.std.proofs.Common.{Some}
use Rattle.std.proofs.lemmas.Option.{slice_get-get_or}
use Rattle.cell_graph.specs.Extents.{PlacePoint}
use Rattle.cell_graph.proofs.Widening.{no_item, next_item, all_items}
use Rattle.cell_graph.proofs.extents.with_places.Goals as goal

pub loop-place-init : goal.loop-place-init
loop-place-init c = no_item (PlacePoint c.args.found.now) c.args.places.now c.args.bounds

pub loop-place-preserved : goal.loop-place-preserved
loop-place-preserved c =
    let items = c.args.places.now in
    let n = c.loop-place.place-index in
    next_item (PlacePoint c.args.found.now) items n _ c.args.bounds c.loop-place.all (Some c.in-Some.more) (slice_get-get_or items n _ c.loop-place-test.true) c.loop-place.invariant (c.in-Some.ensures {u = tt})

pub returns : goal.returns
returns c = all_items (PlacePoint c.args.found.now) c.args.places.now c.loop-place.place-index c.args.bounds c.loop-place.all c.loop-place-test.false c.loop-place.invariant
