use Rattle.std.proofs.Common.{◌≡◌, ◌-◌, inl, List, [], ◌∷◌, drop, length, map, subst, sym, take, arith}
use Rattle.base_laws.proofs.Lists.{none_left}
use Rattle.std.proofs.lemmas.Result.{err_from_is_err_and}
use Rattle.geo_base.specs.declared.motion.Motion.{Motion}
use Rattle.part_origins.specs.Inside.{PlainSpot, plain_spot}
use Rattle.part_origins.specs.declared.inside.Spot.{Spot}
use Rattle.std.specs.List.{All}
use Rattle.view_netlist.specs.Drawing.{IsSmallShift}
use Rattle.view_drawing.proofs.Placing.{front}
use Rattle.view_joined.proofs.Motions.{HasMotions, motions_begin, motions_end, motions_more}
use Rattle.view_joined.specs.Spots.{IsFarSpot, IsSpotMotion}
use Rattle.view_drawing.proofs.Fars.{err_as}
use Rattle.view_joined.proofs.spots.spot_motions.Goals as goal

pub spots-preserved : goal.spots-preserved
spots-preserved c =
    let spots = map plain_spot c.args.spots.now in
    let drawings = c.args.drawings.now in
    let rest = c.spots.rest.now in
    let first = c.spot-item.result in
    let after = map plain_spot (take (length rest - 1) (drop 1 rest)) in
    let out = c.spots.motions.items in
    let e : map plain_spot rest ≡ plain_spot first ∷ after = front plain_spot rest first c.in-len1-up.len_at_least c.spot-item.is in
    let before = subst (λ (z : List PlainSpot). HasMotions spots drawings spots out z) e c.spots.invariant in
    let m = c.in_ok-motion.motion in
    let moved = subst (λ (l : List Motion). IsSpotMotion spots drawings l first.by m) c.deref.ensures.value c.in_ok-motion.ensures.moved in
    let next = motions_more spots drawings spots out (plain_spot first) after m before moved c.in_ok-motion.ensures.small in
    subst (λ (z : List Motion). HasMotions spots drawings spots z after) (sym c.in_ok-keep.ensures.kept) next

pub returns-clause-motions : goal.returns-clause-motions
returns-clause-motions c =
    let spots = map plain_spot c.args.spots.now in
    let low = c.in_default.len_below in
    let none : c.spots.rest.now ≡ [] = none_left c.spots.rest.now (omega arith) in
    motions_end spots c.args.drawings.now spots c.spots.motions.items
    (subst (λ (z : List Spot). HasMotions spots c.args.drawings.now spots c.spots.motions.items (map plain_spot z)) none c.spots.invariant)

pub spots-init : goal.spots-init
spots-init c =
    let spots = map plain_spot c.args.spots.now in
    subst (λ (z : List Motion). HasMotions spots c.args.drawings.now spots z spots) (sym c.new-motions.ensures.items) (motions_begin spots c.args.drawings.now spots)

pub returns-in_err-motion-clause-far : goal.returns-in_err-motion-clause-far
returns-in_err-motion-clause-far c =
    let x = err_from_is_err_and c.from_residual.result c.from_residual.ensures.1 in
    let spots = map plain_spot c.args.spots.now in
    let rest = c.spots.rest.now in
    let first = c.spot-item.result in
    let after = map plain_spot (take (length rest - 1) (drop 1 rest)) in
    let e : map plain_spot rest ≡ plain_spot first ∷ after = front plain_spot rest first c.in-len1-up.len_at_least c.spot-item.is in
    rw (x.1, x.2) (λ s.
    let m = c.in_err-motion.ensures.far (err_as _ _ s) in
    let moved = subst (λ (l : List Motion). IsSpotMotion spots c.args.drawings.now l first.by m.0) c.deref.ensures.value m.1 in
    c.spots.invariant.far (subst (λ (z : List PlainSpot). IsFarSpot spots c.args.drawings.now c.spots.motions.items z) (sym e) (m.0, moved, inl m.2)))

pub spot_motion-requires-clause-motions : goal.spot_motion-requires-clause-motions
spot_motion-requires-clause-motions c = subst (λ (l : List Motion). All IsSmallShift l) (sym c.deref.ensures.value) c.spots.invariant.small
