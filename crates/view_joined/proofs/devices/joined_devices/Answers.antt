use Rattle.std.proofs.Common.{◌<◌, inl, ◌≡◌, ◌-◌, ℕ, List, [], ◌∷◌, None, Some, length, map, take, drop, get_or, sym, ap, subst, ◌∙◌, arith}
use Rattle.base_laws.proofs.Lists.{none_left}
use Rattle.std.proofs.lemmas.Result.{err_from_is_err_and}
use Rattle.flat_layout.specs.Layout.{Some_of}
use Rattle.geo_base.specs.declared.motion.Motion.{Motion}
use Rattle.part_origins.specs.Inside.{plain_spot}
use Rattle.part_origins.specs.declared.inside.Part.{Part}
use Rattle.view_netlist.specs.declared.drawing.DevicePlace.{DevicePlace}
use Rattle.std.proofs.lemmas.List.{length-map}
use Rattle.view_drawing.specs.Devices.{area_of, areas_of}
use Rattle.view_netlist.specs.Drawing.{IsSmallShift}
use Rattle.view_joined.specs.Devices.{AreJoinedDevices, IsFarDevice, IsFarMoved, IsMovedPlace, device_of}
use Rattle.view_joined.specs.Spots.{circuit_at, still}
use Rattle.view_joined.proofs.Growing.{SoFar, begin, ends, first_of, more}
use Rattle.view_joined.proofs.Small.{longer, place_small, shift_at, stood_before}
use Rattle.view_drawing.proofs.Fars.{err_as}
use Rattle.view_joined.proofs.devices.joined_devices.Goals as goal

pub returns-in_default-device_of-clause-places : goal.returns-in_default-device_of-clause-places
returns-in_default-device_of-clause-places c =
    let spots = map plain_spot c.args.spots.now in
    let drawings = c.args.drawings.now in
    let rest = c.devices.rest.now in
    let zero : Part = record { spot = 0; number = 0 } in
    let part : Part = get_or rest 0 zero in
    let after = take (length rest - 1) (drop 1 rest) in
    let e : rest ≡ part ∷ after = first_of rest zero c.in-len1-up.len_at_least in
    let now = areas_of c.devices.found.regions.items in
    let none : device_of drawings (circuit_at spots part.spot) part.number ≡ None
    = ap (λ (n : ℕ). device_of drawings n part.number) (sym c.circuit_at-circuit.ensures) ∙ (sym c.device_of.ensures ∙ c.in_default-device_of.is) in
    ends spots drawings c.args.motions.now (areas_of c.args.found.now.regions.items) now c.args.devices.now c.devices.out.items rest c.devices.invariant
    (subst (λ (z : List Part). AreJoinedDevices spots drawings c.args.motions.now now z []) (sym e) none)

pub devices-preserved : goal.devices-preserved
devices-preserved c =
    let spots = map plain_spot c.args.spots.now in
    let drawings = c.args.drawings.now in
    let motions = c.args.motions.now in
    let rest = c.devices.rest.now in
    let zero : Part = record { spot = 0; number = 0 } in
    let part : Part = get_or rest 0 zero in
    let after = take (length rest - 1) (drop 1 rest) in
    let e : rest ≡ part ∷ after = first_of rest zero c.in-len1-up.len_at_least in
    let old = areas_of c.args.found.now.regions.items in
    let now = areas_of c.devices.found.regions.items in
    let next = areas_of c.moved_place.new.found.regions.items in
    let q = c.in_ok-moved.moved in
    let there : device_of drawings (circuit_at spots part.spot) part.number ≡ Some c.in-Some.place
    = ap (λ (n : ℕ). device_of drawings n part.number) (sym c.circuit_at-circuit.ensures) ∙ (sym c.device_of.ensures ∙ c.in-Some.is) in
    let moved : IsMovedPlace (get_or motions part.spot still) c.in-Some.place next q = subst (λ (m : Motion). IsMovedPlace m c.in-Some.place next q) c.motion_at-motion.ensures c.in_ok-moved.ensures.place in
    let before : SoFar spots drawings motions old now c.args.devices.now c.devices.out.items (part ∷ after)
    = subst (λ (z : List Part). SoFar spots drawings motions old now c.args.devices.now c.devices.out.items z) e c.devices.invariant in
    subst (λ (out : List DevicePlace). SoFar spots drawings motions old next c.args.devices.now out after) (sym c.in_ok-keep_place.ensures.kept)
    (more spots drawings motions old now next c.args.devices.now c.devices.out.items part after q before c.in_ok-moved.ensures.added c.in_ok-moved.ensures.small c.in_ok-moved.ensures.at (c.in-Some.place, there, moved))

pub returns-clause-places : goal.returns-clause-places
returns-clause-places c =
    let spots = map plain_spot c.args.spots.now in
    let low = c.in_default.len_below in
    let none : c.devices.rest.now ≡ [] = none_left c.devices.rest.now (omega arith) in
    let now = areas_of c.devices.found.regions.items in
    ends spots c.args.drawings.now c.args.motions.now (areas_of c.args.found.now.regions.items) now c.args.devices.now c.devices.out.items c.devices.rest.now c.devices.invariant
    (subst (λ (z : List Part). AreJoinedDevices spots c.args.drawings.now c.args.motions.now now z []) (sym none) tt)

pub devices-init : goal.devices-init
devices-init c =
    let spots = map plain_spot c.args.spots.now in
    let old = areas_of c.args.found.now.regions.items in
    subst (λ (z : List DevicePlace). SoFar spots c.args.drawings.now c.args.motions.now old old c.args.devices.now z c.args.devices.now) (sym c.new-out.ensures.items)
    (begin spots c.args.drawings.now c.args.motions.now old c.args.devices.now c.requires.regions)

pub moved_place-requires-clause-motion : goal.moved_place-requires-clause-motion
moved_place-requires-clause-motion c =
    subst IsSmallShift (sym c.motion_at-motion.ensures) (shift_at c.args.motions.now _ c.requires.motions)

pub moved_place-requires-clause-place : goal.moved_place-requires-clause-place
moved_place-requires-clause-place c =
    place_small c.args.drawings.now c.circuit_at-circuit.result _ c.in-Some.place c.requires.drawings (sym c.device_of.ensures ∙ c.in-Some.is)

pub moved_place-requires-clause-region : goal.moved_place-requires-clause-region
moved_place-requires-clause-region c =
    let old = c.args.found.now.regions.items in
    let now = c.devices.found.regions.items in
    let lt = longer (areas_of old) (areas_of now) c.in-Some.place.region c.devices.invariant.added
    (c.requires.listed c.circuit_at-circuit.result _ c.in-Some.place (sym c.device_of.ensures ∙ c.in-Some.is)) in
    subst (λ n. c.in-Some.place.region < n) (length-map now area_of) lt

pub moved_place-requires-clause-regions : goal.moved_place-requires-clause-regions
moved_place-requires-clause-regions c = c.devices.invariant.small

pub returns-in_err-moved-clause-far : goal.returns-in_err-moved-clause-far
returns-in_err-moved-clause-far c =
    let x = err_from_is_err_and c.from_residual.result c.from_residual.ensures.1 in
    let spots = map plain_spot c.args.spots.now in
    let drawings = c.args.drawings.now in
    let motions = c.args.motions.now in
    let rest = c.devices.rest.now in
    let zero : Part = record { spot = 0; number = 0 } in
    let part : Part = get_or rest 0 zero in
    let after = take (length rest - 1) (drop 1 rest) in
    let e : rest ≡ part ∷ after = first_of rest zero c.in-len1-up.len_at_least in
    let old = areas_of c.args.found.now.regions.items in
    let now = areas_of c.devices.found.regions.items in
    let place = c.in-Some.place in
    let there : device_of drawings (circuit_at spots part.spot) part.number ≡ Some place
    = ap (λ (n : ℕ). device_of drawings n part.number) (sym c.circuit_at-circuit.ensures) ∙ (sym c.device_of.ensures ∙ c.in-Some.is) in
    let lt = c.requires.listed (circuit_at spots part.spot) part.number place there in
    rw (x.1, x.2) (λ s.
    let h = subst (λ (m : Motion). IsFarMoved m place now) c.motion_at-motion.ensures (c.in_err-moved.ensures.far (err_as _ _ s)) in
    c.devices.invariant.far (subst (λ (z : List Part). Some_of (IsFarDevice spots drawings motions old) z) (sym e)
    (inl (place, there, (h.0, stood_before old now place.region h.0 c.devices.invariant.added lt h.1, h.2)))))
