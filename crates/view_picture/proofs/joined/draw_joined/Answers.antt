use Rattle.std.proofs.Common.{◌≡◌, ◌≤◌, ◌∙◌, Option, Some, None, ap, arith, length, map, slice_get, subst, sym}
use Rattle.base_laws.proofs.Items.{map_to}
use Rattle.std.proofs.lemmas.List.{length-map}
use Rattle.std.proofs.lemmas.Option.{slice_get-get_or, slice_get_past}
use Rattle.net_model.specs.Rows.{plain_circuit}
use Rattle.part_origins.specs.Inside.{PlainInside, plain_inside}
use Rattle.part_origins.specs.Made.{plain_origins}
use Rattle.view_drawing.specs.Devices.{areas_of}
use Rattle.view_netlist.specs.Drawing.{plain_drawing}
use Rattle.view_picture.specs.Far.{IsFarOf}
use Rattle.view_picture.specs.Picture.{IsJoinedOf}
use Rattle.view_picture.proofs.joined.draw_joined.Goals as goal

pub returns-in-Some-clause-far : goal.returns-in-Some-clause-far
returns-in-Some-clause-far c s =
    let xs = c.args.insides.now in
    let k = c.args.origins.now.circuit in
    let inside = c.in-Some.inside.now in
    let l = c.in-Some.ensures.lookup in
    let there : slice_get xs k ≡ Some inside = slice_get-get_or xs k inside l.3.0 ∙ ap Some (sym l.1) in
    subst (λ (x : Option PlainInside). IsFarOf x c.args.drawings.now (areas_of c.args.regions.now.regions.items) (plain_origins c.args.origins.now)) (sym (map_to plain_inside xs k inside there)) (c.joined_drawing.ensures.far s)

pub returns-in-None-clause-joined : goal.returns-in-None-clause-joined
returns-in-None-clause-joined c =
    let xs = c.args.insides.now in
    let k = c.args.origins.now.circuit in
    let past : length xs ≤ k = c.in-None.ensures.lookup.3 in
    let long = length-map xs plain_inside in
    let none : slice_get (map plain_inside xs) k ≡ None = slice_get_past (map plain_inside xs) k (omega (arith, long, past)) in
    subst (λ (x : Option PlainInside). IsJoinedOf x c.args.drawings.now (plain_origins c.args.origins.now) (plain_circuit c.args.left.now) (areas_of c.args.regions.now.regions.items) (plain_drawing c.blank.result)) (sym none) c.blank.ensures
