use Rattle.std.proofs.Common.{◌≡◌, true, List, map, refl, rules, subst}
use Rattle.std.proofs.lemmas.Result.{err_from_is_err_and}
use Rattle.net_model.specs.Rows.{plain_device}
use Rattle.net_model.specs.declared.netlist.DeviceRow.{DeviceRow}
use Rattle.view_netlist.specs.Drawing.{plain_drawing}
use Rattle.view_picture.specs.Parts.{AreDevicePlaces}
use Rattle.view_picture.specs.Picture.{Cell}
use Rattle.view_drawing.proofs.Fars.{err_as}
use Rattle.view_picture.proofs.drawings.draw_found.Goals as goal

pub returns-clause-drawn : goal.returns-clause-drawn
returns-clause-drawn c =
    let rows : c.same_rows.result ≡ true = search rules in
    let w = plain_drawing c.in_ok-drawing.drawing in
    let places = c.in_ok-devices.devices.items in
    Cell (c.same_rows.ensures.0 rows) w c.in_ok-drawing.ensures.drawn
    (subst (λ (l : List DeviceRow). AreDevicePlaces (map plain_device l) (map plain_device c.args.found.now.devices.items) w.devices places) c.deref.ensures.value
    (subst (λ (l : List DeviceRow). AreDevicePlaces (map plain_device c.deref.result.now) (map plain_device l) w.devices places) c.deref-2.ensures.value c.in_ok-devices.ensures.places))
    refl

pub returns-in_err-drawing-clause-far : goal.returns-in_err-drawing-clause-far
returns-in_err-drawing-clause-far c =
    let e = err_from_is_err_and c.from_residual.result c.from_residual.ensures.1 in
    rw (e.1, e.2) (λ s. record { cell = c.args.cell; reached = c.requires.reached; circuit = c.requires.circuit; far = c.in_err-drawing.ensures.far (err_as _ _ s) })
