use Rattle.std.proofs.Common.{◌≡◌, ◌-◌, ◌++◌, ◌∙◌, ℕ, List, None, Some, ap, drop, length, subst, sym, take}
use Rattle.std.specs.Global.{Vec}
use Rattle.device_merge.specs.Parts.{place_lists}
use Rattle.view_drawing.proofs.Placing.{front, nil_of}
use Rattle.view_netlist.specs.declared.drawing.DevicePlace.{DevicePlace}
use Rattle.view_picture.specs.Parts.{first_place, first_places}
use Rattle.view_picture.proofs.Parting.{ends_all, ends_here, goes_further}
use Rattle.view_picture.proofs.parts.first_places.Goals as goal

pub returns-in_default-first_place-clause-places : goal.returns-in_default-first_place-clause-places
returns-in_default-first_place-clause-places c =
    let all = c.args.places.now in
    let rest = c.parts.rest.now in
    let part = c.part-item.result in
    let after = take (length rest - 1) (drop 1 rest) in
    let none : first_place all part.items ≡ None = ap (λ (ks : List ℕ). first_place all ks) (sym c.as_slice.ensures.value) ∙ (sym c.first_place.ensures.place ∙ c.in_default-first_place.is) in
    ends_here all c.parts.out.items (first_places all (place_lists c.args.parts.now)) part.items (place_lists rest) (place_lists after)
    (front (λ (l : Vec ℕ). l.items) rest part c.in-len1-up.len_at_least c.part-item.is) none c.parts.invariant.0

pub parts-preserved : goal.parts-preserved
parts-preserved c =
    let all = c.args.places.now in
    let rest = c.parts.rest.now in
    let part = c.part-item.result in
    let after = take (length rest - 1) (drop 1 rest) in
    let x = first_places all (place_lists c.args.parts.now) in
    let some : first_place all part.items ≡ Some c.in-Some.place = ap (λ (ks : List ℕ). first_place all ks) (sym c.as_slice.ensures.value) ∙ (sym c.first_place.ensures.place ∙ c.in-Some.is) in (
      subst (λ (l : List DevicePlace). l ++ first_places all (place_lists after) ≡ x) (sym c.in_ok-keep_place.ensures.kept)
          (goes_further all c.parts.out.items x part.items (place_lists rest) (place_lists after) c.in-Some.place
          (front (λ (l : Vec ℕ). l.items) rest part c.in-len1-up.len_at_least c.part-item.is) some c.parts.invariant.0),
      c.in_ok-keep_place.ensures.small c.parts.invariant.1,
    )

pub returns-clause-places : goal.returns-clause-places
returns-clause-places c =
    let all = c.args.places.now in
    ends_all all c.parts.out.items (first_places all (place_lists c.args.parts.now)) (place_lists c.parts.rest.now)
    (nil_of (λ (l : Vec ℕ). l.items) c.parts.rest.now c.in_default.len_below) c.parts.invariant.0
