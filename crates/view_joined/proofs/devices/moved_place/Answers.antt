use Rattle.std.proofs.Common.{◌≡◌, ℕ, List, Some, length, map, slice_get, refl, subst}
use Rattle.base_laws.proofs.Items.{map_to}
use Rattle.std.proofs.lemmas.Option.{slice_get_read}
use Rattle.std.proofs.lemmas.Result.{err_from_is_err_and}
use Rattle.std.specs.List.{All}
use Rattle.geo_base.specs.declared.shapes.Point.{Point}
use Rattle.geo_base.specs.declared.shapes.Rect.{Rect}
use Rattle.view_drawing.specs.Devices.{Area, IsListedRegion, area_of, areas_of, class_in, seen_from}
use Rattle.view_drawing.proofs.Placing.{still_listed}
use Rattle.view_drawing.specs.Far.{IsFarArea}
use Rattle.view_joined.proofs.Small.{all_at}
use Rattle.view_joined.specs.Devices.{moved_rects}
use Rattle.view_words.specs.Numbers.{IsSmallRect}
use Rattle.view_drawing.proofs.Fars.{err_as}
use Rattle.view_joined.proofs.devices.moved_place.Goals as goal

pub returns-clause-place : goal.returns-clause-place
returns-clause-place c =
    let regions = c.args.found.now.regions.items in
    let k = c.args.place.region in
    let low = c.requires.region in
    let old = c.index-old.result.now in
    let at = slice_get_read regions (length regions) k old refl low c.index-old.ensures in
    let listed : slice_get (areas_of regions) k ≡ Some (area_of old) = map_to area_of regions k old at in
    let new = areas_of c.add_area.new.found.regions.items in
    let moved = map (seen_from c.moved_corner-at.result) (moved_rects c.args.motion.now c.args.place.at old.rects.items) in
    let one : IsListedRegion new c.in_ok-region.region (class_in old) moved = subst (λ (z : List Rect). IsListedRegion new c.in_ok-region.region (class_in old) z) c.in_ok-rects.ensures.rects
    (subst (λ (z : List ℕ). IsListedRegion new c.in_ok-region.region (record { kind = old.kind; name = z }) c.in_ok-rects.rects.items) c.in_ok-class.ensures c.in_ok-region.ensures.listed) in
    record {
      area = area_of old;
      of = still_listed (areas_of regions) new k (class_in old) old.rects.items c.in_ok-region.ensures.added listed;
      at = c.moved_corner-at.ensures;
      region = one;
    }

pub rects_from-requires-clause-region : goal.rects_from-requires-clause-region
rects_from-requires-clause-region c =
    let regions = c.args.found.now.regions.items in
    let k = c.args.place.region in
    let old = c.index-old.result.now in
    let at = slice_get_read regions (length regions) k old refl c.requires.region c.index-old.ensures in
    all_at (λ (a : Area). All IsSmallRect a.rects) (areas_of regions) k (area_of old) c.requires.regions (map_to area_of regions k old at)

pub returns-in_err-rects-clause-far : goal.returns-in_err-rects-clause-far
returns-in_err-rects-clause-far c =
    let e = err_from_is_err_and c.from_residual-in_err-rects.result c.from_residual-in_err-rects.ensures.1 in
    let regions = c.args.found.now.regions.items in
    let k = c.args.place.region in
    let old = c.index-old.result.now in
    let at = slice_get_read regions (length regions) k old refl c.requires.region c.index-old.ensures in
    let listed : slice_get (areas_of regions) k ≡ Some (area_of old) = map_to area_of regions k old at in
    rw (e.1, e.2) (λ s. (area_of old, listed, subst (λ (p : Point). IsFarArea p (moved_rects c.args.motion.now c.args.place.at old.rects.items)) c.moved_corner-at.ensures (c.in_err-rects.ensures.far (err_as _ _ s))))
