use Rattle.std.proofs.Common.{List, map, refl, subst}
use Rattle.net_model.specs.Rows.{plain_device}
use Rattle.net_model.specs.declared.netlist.DeviceRow.{DeviceRow}
use Rattle.view_netlist.specs.Drawing.{plain_drawing}
use Rattle.view_picture.specs.Parts.{AreDevicePlaces}
use Rattle.view_picture.proofs.answered.place.Goals as goal

pub returns-clause-placed : goal.returns-clause-placed
returns-clause-placed c =
    let w = plain_drawing c.args.drawing in
    let places = c.in_ok-devices.devices.items in
    record {
      places = subst (λ (l : List DeviceRow). AreDevicePlaces (map plain_device l) (map plain_device c.args.left.now.devices.items) w.devices places) c.deref.ensures.value
          (subst (λ (l : List DeviceRow). AreDevicePlaces (map plain_device c.deref.result.now) (map plain_device l) w.devices places) c.deref-2.ensures.value c.in_ok-devices.ensures.places);
      rest = refl;
    }
