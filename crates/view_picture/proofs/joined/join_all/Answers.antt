use Rattle.std.proofs.Common.{inl, inr, ◌∷◌, ◌-◌, List, drop, length, map, subst, sym, take, slice_get}
use Rattle.std.proofs.lemmas.Result.{err_from_is_err_and}
use Rattle.net_model.specs.Rows.{plain_circuit}
use Rattle.part_origins.specs.Inside.{plain_inside}
use Rattle.part_origins.specs.Made.{PlainOrigins, plain_origins}
use Rattle.part_origins.specs.declared.inside.Inside.{Inside}
use Rattle.plain_netlist.specs.Netlist.{Circuit}
use Rattle.view_drawing.specs.Devices.{areas_of}
use Rattle.view_drawing.proofs.Placing.{added_twice, front, nil_of}
use Rattle.view_netlist.specs.Drawing.{Drawn, plain_drawing}
use Rattle.view_picture.specs.Far.{HasFarJoined, IsFarJoined}
use Rattle.view_picture.specs.Picture.{IsJoinedIn, plain_drawings}
use Rattle.view_picture.proofs.Joining.{JoinsOn, far_of_before, joins_end, joins_next, joins_short, regions_too}
use Rattle.view_drawing.proofs.Fars.{err_as}
use Rattle.view_picture.proofs.joined.join_all.Goals as goal

pub circuits-preserved : goal.circuits-preserved
circuits-preserved c =
    let xs = map plain_inside c.args.origins.now.insides.items in
    let ds = c.args.drawings.now in
    let from = c.circuits.from.now in
    let rest = c.circuits.rest.now in
    let one = c.one-item.result in
    let left = c.left-item.result in
    let later = map plain_origins (take (length from - 1) (drop 1 from)) in
    let more = map plain_circuit (take (length rest - 1) (drop 1 rest)) in
    let now = areas_of c.circuits.regions.regions.items in
    let new = areas_of c.draw_joined.new.regions.regions.items in
    let out = plain_drawings c.circuits.out.items in
    let all_os = map plain_origins c.args.origins.now.circuits.items in
    let all_cs = map plain_circuit c.args.lefts.now in
    let v = plain_drawing c.in_ok-drawing.drawing in
    let here = subst (λ (l : List Circuit). JoinsOn xs ds now (map plain_origins from) l out all_os all_cs) (front plain_circuit rest left c.in-len1-up.len_at_least c.left-item.is) c.circuits.invariant.goes in
    let there = subst (λ (l : List PlainOrigins). JoinsOn xs ds now l (plain_circuit left ∷ more) out all_os all_cs) (front plain_origins from one c.in-len1-up-from.len_at_least c.one-item.is) here in
    let is = subst (λ (l : List Inside). IsJoinedIn (map plain_inside l) ds (plain_origins one) (plain_circuit left) new v) c.deref.ensures.value c.in_ok-drawing.ensures.joined in
    let next = joins_next xs ds now new (plain_origins one) later (plain_circuit left) more v out all_os all_cs c.in_ok-drawing.ensures.added is there in
    record {
      added = added_twice _ now new c.circuits.invariant.added c.in_ok-drawing.ensures.added;
      small_regions = c.in_ok-drawing.ensures.small_regions;
      far = λ h. c.circuits.invariant.far (subst (λ (l : List PlainOrigins). HasFarJoined xs l ds (areas_of c.args.regions.now.regions.items)) (sym (front plain_origins from one c.in-len1-up-from.len_at_least c.one-item.is)) (inr h));
      small = c.in_ok-keep.ensures.small c.circuits.invariant.small;
      goes = subst (λ (l : List Drawn). JoinsOn xs ds new later more l all_os all_cs) (sym c.in_ok-keep.ensures.kept) next;
    }

pub returns-in_default-from-clause-joined : goal.returns-in_default-from-clause-joined
returns-in_default-from-clause-joined c =
    joins_short (map plain_inside c.args.origins.now.insides.items) c.args.drawings.now (areas_of c.circuits.regions.regions.items) (map plain_origins c.circuits.from.now) (map plain_circuit c.circuits.rest.now) (plain_drawings c.circuits.out.items)
    (map plain_origins c.args.origins.now.circuits.items) (map plain_circuit c.args.lefts.now) (nil_of plain_origins c.circuits.from.now c.in_default-from.len_below) c.circuits.invariant.goes

pub returns-clause-joined : goal.returns-clause-joined
returns-clause-joined c =
    joins_end (map plain_inside c.args.origins.now.insides.items) c.args.drawings.now (areas_of c.circuits.regions.regions.items) (map plain_origins c.circuits.from.now) (map plain_circuit c.circuits.rest.now) (plain_drawings c.circuits.out.items)
    (map plain_origins c.args.origins.now.circuits.items) (map plain_circuit c.args.lefts.now) (nil_of plain_circuit c.circuits.rest.now c.in_default.len_below) c.circuits.invariant.goes

pub draw_joined-requires-clause-listed : goal.draw_joined-requires-clause-listed
draw_joined-requires-clause-listed c =
    regions_too (areas_of c.args.regions.now.regions.items) (areas_of c.circuits.regions.regions.items) c.args.drawings.now c.circuits.invariant.added c.requires.listed

pub draw_joined-requires-clause-regions : goal.draw_joined-requires-clause-regions
draw_joined-requires-clause-regions c = c.circuits.invariant.small_regions

pub returns-in_err-drawing-clause-far : goal.returns-in_err-drawing-clause-far
returns-in_err-drawing-clause-far c =
    let x = err_from_is_err_and c.from_residual.result c.from_residual.ensures.1 in
    let xs = map plain_inside c.args.origins.now.insides.items in
    let ds = c.args.drawings.now in
    let from = c.circuits.from.now in
    let one = c.one-item.result in
    let old = areas_of c.args.regions.now.regions.items in
    let now = areas_of c.circuits.regions.regions.items in
    rw (x.1, x.2) (λ s.
    let h = subst (λ (l : List Inside). IsFarJoined (map plain_inside l) ds now (plain_origins one)) c.deref.ensures.value (c.in_err-drawing.ensures.far (err_as _ _ s)) in
    let before = far_of_before (slice_get xs one.circuit) (plain_origins one) ds old now c.circuits.invariant.added c.requires.listed h in
    c.circuits.invariant.far (subst (λ (l : List PlainOrigins). HasFarJoined xs l ds old) (sym (front plain_origins from one c.in-len1-up-from.len_at_least c.one-item.is)) (inl before)))
