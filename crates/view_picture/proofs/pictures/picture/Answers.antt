use Rattle.std.proofs.Common.{List, subst, sym}
use Rattle.std.proofs.lemmas.Result.{err_from_is_err_and}
use Rattle.part_origins.specs.Made.{plain_all}
use Rattle.view_drawing.proofs.Fars.{err_as}
use Rattle.view_drawing.specs.Devices.{Area, AreSmallRegions, areas_of}
use Rattle.view_joined.specs.Devices.{HaveRegions}
use Rattle.view_netlist.specs.Drawing.{AreAllSmall}
use Rattle.view_netlist.specs.declared.drawing.Drawing.{Drawing}
use Rattle.view_picture.specs.Far.{HasFarJoined}
use Rattle.view_picture.proofs.Picturing.{small_areas}
use Rattle.view_picture.proofs.pictures.picture.Goals as goal

pub returns-clause-small : goal.returns-clause-small
returns-clause-small c = record {
  drawings = c.in_ok-joined.ensures.small;
  regions = small_areas c.in_ok-regions_of.field-0.items
      (subst (λ (l : List Area). AreSmallRegions l) (sym c.in_ok-regions_of.ensures) c.in_ok-joined.ensures.small_regions);
}

pub join_all-requires-clause-drawings : goal.join_all-requires-clause-drawings
join_all-requires-clause-drawings c = subst (λ (l : List Drawing). AreAllSmall l) (sym c.deref-4.ensures.value) c.requires.small

pub join_all-requires-clause-listed : goal.join_all-requires-clause-listed
join_all-requires-clause-listed c =
    subst (λ (l : List Drawing). HaveRegions (areas_of c.args.drawn.sketch.regions.regions.items) l) (sym c.deref-4.ensures.value) c.requires.listed

pub returns-in_err-joined-clause-far : goal.returns-in_err-joined-clause-far
returns-in_err-joined-clause-far c =
    let e = err_from_is_err_and c.from_residual-in_err-joined.result c.from_residual-in_err-joined.ensures.1 in
    let o = plain_all c.args.origins.now in
    rw (e.1, e.2) (λ s. subst (λ (l : List Drawing). HasFarJoined o.insides o.circuits l (areas_of c.args.drawn.sketch.regions.regions.items)) c.deref-4.ensures.value (c.in_err-joined.ensures.far (err_as _ _ s)))
