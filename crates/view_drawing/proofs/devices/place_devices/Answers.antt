use Rattle.std.proofs.Common.{inl, inr, ◌∷◌, ◌-◌, ◌∙◌, List, drop, length, map, subst, sym, take}
use Rattle.base_laws.proofs.Lists.{none_left}
use Rattle.std.proofs.lemmas.Result.{err_from_is_err_and}
use Rattle.deep_tables.specs.declared.gates.Gate.{Gate}
use Rattle.net_model.specs.Rows.{plain_device}
use Rattle.plain_netlist.specs.Netlist.{DeviceRow}
use Rattle.view_netlist.specs.declared.drawing.DevicePlace.{DevicePlace}
use Rattle.view_netlist.specs.Kinds.{Class, class_of}
use Rattle.view_drawing.specs.Devices.{IsPlaceOf, areas_of}
use Rattle.view_drawing.specs.Far.{HasFarGate}
use Rattle.view_drawing.proofs.Placing.{Goes, added_twice, front, front_is, goes_end, goes_good, goes_short, nil_of}
use Rattle.view_drawing.proofs.Fars.{err_as}
use Rattle.view_drawing.proofs.devices.place_devices.Goals as goal

pub returns-in_default-rest-clause-places : goal.returns-in_default-rest-clause-places
returns-in_default-rest-clause-places c =
    goes_short (areas_of c.gates.found.regions.items) c.gates.left.now (map plain_device c.gates.rest.now) c.gates.out.items c.args.gates.now (map plain_device c.args.rows.now) (nil_of plain_device c.gates.rest.now c.in_default-rest.len_below) c.gates.invariant.goes

pub gates-preserved-then-is_good : goal.gates-preserved-then-is_good
gates-preserved-then-is_good c =
    let left = c.gates.left.now in
    let rest = c.gates.rest.now in
    let gate = c.gate-item.result in
    let row = c.row-item.result in
    let more = take (length left - 1) (drop 1 left) in
    let later = take (length rest - 1) (drop 1 rest) in
    let now = areas_of c.gates.found.regions.items in
    let new = areas_of c.place_device.new.found.regions.items in
    let out = c.gates.out.items in
    let gates = c.args.gates.now in
    let rows = map plain_device c.args.rows.now in
    let here : Goes now (gate ∷ more) (map plain_device rest) out gates rows =
    subst (λ (l : List Gate). Goes now l (map plain_device rest) out gates rows) (front_is left gate c.in-len1-up.len_at_least c.gate-item.is) c.gates.invariant.goes in
    let there : Goes now (gate ∷ more) (plain_device row ∷ map plain_device later) out gates rows =
    subst (λ (l : List DeviceRow). Goes now (gate ∷ more) l out gates rows) (front plain_device rest row c.in-len1-up-rest.len_at_least c.row-item.is) here in
    let class : IsPlaceOf new (class_of (plain_device row)) gate c.in_ok-place.place = subst (λ (l : Class). IsPlaceOf new l gate c.in_ok-place.place) c.class_of.ensures c.in_ok-place.ensures.place in
    let next = goes_good now new gate more (plain_device row) (map plain_device later) c.in_ok-place.place out gates rows (sym c.is_good.ensures ∙ c.if-is_good.true) c.in_ok-place.ensures.added class there in
    record {
      added = added_twice _ now new c.gates.invariant.added c.in_ok-place.ensures.added;
      small = λ h. c.in_ok-place.ensures.small (c.gates.invariant.small h);
      goes = subst (λ (l : List DevicePlace). Goes new more (map plain_device later) l gates rows) (sym c.in_ok-keep_place.ensures.kept) next;
      small_places = c.in_ok-keep_place.ensures.small c.gates.invariant.small_places;
      far = λ h. c.gates.invariant.far (subst (λ (l : List Gate). HasFarGate l) (sym (front_is left gate c.in-len1-up.len_at_least c.gate-item.is)) (inr h));
    }

pub returns-clause-places : goal.returns-clause-places
returns-clause-places c =
    goes_end (areas_of c.gates.found.regions.items) c.gates.left.now (map plain_device c.gates.rest.now) c.gates.out.items c.args.gates.now (map plain_device c.args.rows.now) (none_left c.gates.left.now c.in_default.len_below) c.gates.invariant.goes

pub returns-in_err-place-clause-far : goal.returns-in_err-place-clause-far
returns-in_err-place-clause-far c =
    let e = err_from_is_err_and c.from_residual.result c.from_residual.ensures.1 in
    let left = c.gates.left.now in
    let gate = c.gate-item.result in
    rw (e.1, e.2) (λ s. c.gates.invariant.far (subst (λ (l : List Gate). HasFarGate l) (sym (front_is left gate c.in-len1-up.len_at_least c.gate-item.is)) (inl (sym c.is_good.ensures ∙ c.if-is_good.true, c.in_err-place.ensures.far (err_as _ _ s)))))
