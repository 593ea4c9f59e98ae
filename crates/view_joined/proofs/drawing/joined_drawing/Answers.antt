use Rattle.std.proofs.Common.{List, [], Option, map, subst, sym, IfSome}
use Rattle.std.proofs.lemmas.Result.{err_from_is_err_and}
use Rattle.std.specs.Global.{Vec}
use Rattle.std.specs.List.{All}
use Rattle.flat_layout.specs.Layout.{Some_of}
use Rattle.geo_base.specs.declared.shapes.Rect.{Rect}
use Rattle.part_origins.specs.Inside.{plain_inside, plain_spot}
use Rattle.part_origins.specs.Made.{plain_origins}
use Rattle.part_origins.specs.declared.inside.Spot.{Spot}
use Rattle.view_drawing.specs.Devices.{areas_of}
use Rattle.view_netlist.proofs.Drawings.{drawn_small}
use Rattle.view_netlist.specs.Drawing.{AreSmallShapes}
use Rattle.view_netlist.specs.declared.drawing.Shape.{Shape}
use Rattle.view_words.specs.Numbers.{IsSmallRect}
use Rattle.view_joined.proofs.FarNets.{far_net}
use Rattle.view_joined.specs.Far.{Call, Device, HasFarShape, Spot as FarSpot}
use Rattle.view_joined.specs.Nets.{shape_lists}
use Rattle.view_joined.specs.Spots.{AreMotions, IsFarSpot}
use Rattle.view_drawing.proofs.Fars.{err_as}
use Rattle.view_joined.proofs.drawing.joined_drawing.Goals as goal

pub returns-in_err-motions-clause-far : goal.returns-in_err-motions-clause-far
returns-in_err-motions-clause-far c =
    let e = err_from_is_err_and c.from_residual.result c.from_residual.ensures.1 in
    rw (e.1, e.2) (λ s. FarSpot (subst (λ (l : List Spot). IsFarSpot (map plain_spot l) c.args.drawings.now [] (map plain_spot l)) c.as_slice-spots.ensures.value (c.in_err-motions.ensures.far (err_as _ _ s))))

pub returns-clause-far : goal.returns-clause-far
returns-clause-far c s =
    let ds = c.args.drawings.now in
    let ms = c.in_ok-motions.motions.items in
    let moved = subst (λ (l : List Spot). AreMotions (map plain_spot l) ds [] (map plain_spot l) ms) c.as_slice-spots.ensures.value c.in_ok-motions.ensures.motions in
    let joined = rw (c.as_slice-spots.ensures.value, c.deref.ensures.value, c.deref-2.ensures.value) at c.in_ok-nets.ensures in
    let far = subst (λ (l : List (Vec Shape)). Some_of HasFarShape (shape_lists l)) c.deref-3.ensures.value (c.are_all_small.ensures.far c.if-are_all_small.false) in
    far_net (plain_inside c.args.inside.now) (plain_origins c.args.origins.now) ds c.args.count (areas_of c.args.found.now.regions.items) ms (shape_lists c.in_ok-nets.nets.items) moved joined far

pub returns-in_err-calls-clause-far : goal.returns-in_err-calls-clause-far
returns-in_err-calls-clause-far c =
    let e = err_from_is_err_and c.from_residual-in_err-calls.result c.from_residual-in_err-calls.ensures.1 in
    let ds = c.args.drawings.now in
    let ms = c.in_ok-motions.motions.items in
    let moved = subst (λ (l : List Spot). AreMotions (map plain_spot l) ds [] (map plain_spot l) ms) c.as_slice-spots.ensures.value c.in_ok-motions.ensures.motions in
    rw (e.1, e.2) (λ s. Call ms moved (rw (c.as_slice-spots.ensures.value, c.deref-then-are_all_small.ensures.value, c.deref-then-are_all_small-2.ensures.value) at (c.in_err-calls.ensures.far (err_as _ _ s))))

pub returns-in_err-devices-clause-far : goal.returns-in_err-devices-clause-far
returns-in_err-devices-clause-far c =
    let e = err_from_is_err_and c.from_residual-in_err-devices.result c.from_residual-in_err-devices.ensures.1 in
    let ds = c.args.drawings.now in
    let ms = c.in_ok-motions.motions.items in
    let moved = subst (λ (l : List Spot). AreMotions (map plain_spot l) ds [] (map plain_spot l) ms) c.as_slice-spots.ensures.value c.in_ok-motions.ensures.motions in
    rw (e.1, e.2) (λ s. Device ms moved (rw (c.as_slice-spots.ensures.value, c.deref-then-are_all_small-3.ensures.value, c.deref-then-are_all_small-4.ensures.value) at (c.in_err-devices.ensures.far (err_as _ _ s))))

pub returns-then-are_all_small-clause-small : goal.returns-then-are_all_small-clause-small
returns-then-are_all_small-clause-small c = record {
  hull = subst (λ (h : Option Rect). IfSome h IsSmallRect) (sym c.hull_of.ensures) (drawn_small c.args.drawings.now c.args.origins.now.circuit c.requires.drawings).hull;
  nets = subst (λ (l : List (Vec Shape)). All AreSmallShapes (shape_lists l)) c.deref-3.ensures.value (c.are_all_small.ensures.small c.if-are_all_small.true);
  devices = c.in_ok-devices.ensures.small_places;
  calls = c.in_ok-calls.ensures.small;
}
